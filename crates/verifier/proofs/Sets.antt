-- A roster's sets, gathered sensor by sensor.
use Rattle.std.proofs.Common.{◌≡◌, ℕ, ◌≤◌, Bool, true, false, cond, not, Some, None, Option, ◌&&◌, ◌||◌, eqb, leb, List, [], ◌∷◌, ◌++◌, sym, refl, ap, ◌∙◌, subst, arith}
use denote.Param.Members.{Mut}
use mathlib.Core.Path.{fun_ext}
use Rattle.std.proofs.lemmas.Bool.{and_parts, and_from, le-leb, leb-true, eqb-true}
use Rattle.std.proofs.lemmas.Fn.{fold_over}
use Rattle.std.proofs.lemmas.Iterator.{YieldsList}
use Rattle.std.specs.Fn.{Called}
use Rattle.std.specs.Iterator.{FoldsItems}
use Rattle.std.specs.List.{filter}
use Rattle.survey.specs.declared.sensor_set.SensorSet.{SensorSet}
use Rattle.survey.specs.Lists.{numbers, member}
use Rattle.survey.specs.Sets.{set_of, up_to, joining}
use Rattle.survey.specs.Surveys.{Survey, Sensors, nobody}
use Rattle.survey.proofs.Lists.{member_push, member_sift, member_numbers, sift}
use Rattle.verifier.specs.declared.roster.Roster.{Roster}
use Rattle.verifier.specs.declared.sensor.State.{State}
use Rattle.verifier.specs.declared.sensor.State.TheVariants.{Fence, On, Off}
use Rattle.verifier.specs.Rosters.{meaning_of, is_sensor, candidates, state_in}
use Rattle.verifier.specs.Sensors.{state_at, is_fence_of, is_on}

-- what a state says: on, and on but not on the fence
abbrev pub says_on : Option State → Bool
says_on None = false
says_on (Some Fence) = true
says_on (Some On) = true
says_on (Some Off) = false

abbrev pub says_candidate : Option State → Bool
says_candidate None = false
says_candidate (Some Fence) = false
says_candidate (Some On) = true
says_candidate (Some Off) = false

-- of a sensor that is one or not, by its record and by whether it is a member of the fence
abbrev told : Bool → State → Bool → Option State
told t st m = cond t (Some (cond m Fence (cond (t && is_on st) On Off))) None

told_on : (t : Bool) (st : State) (m : Bool) → is_fence_of st ≡ m → says_on (told t st m) ≡ (t && is_on st)
told_on false st m e = refl
told_on true Fence m e = subst (λ m. says_on (Some (cond m Fence On)) ≡ true) e refl
told_on true On m e = subst (λ m. says_on (Some (cond m Fence On)) ≡ true) e refl
told_on true Off m e = subst (λ m. says_on (Some (cond m Fence Off)) ≡ false) e refl

told_candidate : (t : Bool) (st : State) (m : Bool) → is_fence_of st ≡ m → says_candidate (told t st m) ≡ ((t && is_on st) && not m)
told_candidate false st m e = refl
told_candidate true Fence m e = subst (λ m. says_candidate (Some (cond m Fence On)) ≡ not m) e refl
told_candidate true On m e = subst (λ m. says_candidate (Some (cond m Fence On)) ≡ not m) e refl
told_candidate true Off m e = subst (λ m. says_candidate (Some (cond m Fence Off)) ≡ false) e refl

-- by what the roster says of a sensor
module _ (r : Roster) (x : ℕ) (o : Option State) (e : o ≡ state_in (meaning_of r) x) where
  pub on_is : says_on o ≡ (meaning_of r).on x
  on_is = ap says_on e ∙ told_on (is_sensor (meaning_of r).survey x) (state_at r.sensors x) _ (r.fenced x)

  pub candidate_is : says_candidate o ≡ candidates (meaning_of r) x
  candidate_is = ap says_candidate e ∙ told_candidate (is_sensor (meaning_of r).survey x) (state_at r.sensors x) _ (r.fenced x)

never : (b : Bool) → (b && false) ≡ false
never true = refl
never false = refl

-- a fold over the numbers ys put into the set those from 1 to 64
abbrev pub Gathered : List ℕ → SensorSet → Type 0
Gathered ys set = (y : ℕ) → set_of set y ≡ (up_to 64 y && member y ys)

gathered_none : (set : SensorSet) → set_of set ≡ nobody → Gathered [] set
gathered_none set e y = ap (λ (f : Sensors). f y) e ∙ sym (never (up_to 64 y))

gathered_more : (ys : List ℕ) (x : ℕ) (set new : SensorSet) → Gathered ys set → set_of new ≡ joining x (set_of set) → Gathered (ys ++ x ∷ []) new
gathered_more ys x set new h e y = ap (λ (f : Sensors). f y) e ∙ go (eqb y x) refl ∙ sym (ap (λ b. up_to 64 y && b) (member_push y x ys))
  where
    absorbed : (a b : Bool) → (a || (a && b)) ≡ (a && true)
    absorbed true b = refl
    absorbed false b = refl

    go : (b : Bool) → eqb y x ≡ b → ((b && up_to 64 x) || set_of set y) ≡ (up_to 64 y && (b || member y ys))
    go true e = ap (λ k. up_to 64 k || set_of set y) (sym (eqb-true y x e)) ∙ ap (λ b. up_to 64 y || b) (h y) ∙ absorbed (up_to 64 y) (member y ys)
    go false e = h y

pub gathered_by_fold : {S F : Type 0} {steps : S → Option ℕ → S → Type 0} {g : Mut F (SensorSet × (ℕ × Unit {0})) SensorSet} {s : S} {f : F} {all : List ℕ} (init r : SensorSet)
    → FoldsItems steps g s f init r → YieldsList steps (λ x. x) s all → ((a : SensorSet) (x : ℕ) (b : SensorSet) (q : F) → Called g f (a, (x, tt)) b q → (set_of b ≡ joining x (set_of a)) × (q ≡ f))
    → set_of init ≡ nobody → Gathered all r
gathered_by_fold {steps = steps} {g = g} {s = s} {f = f} {all = all} init r ran road with' none =
    fold_over steps (λ x. x) g Gathered f (λ ys a x b q h k. let w = with' a x b q k in (gathered_more ys x a b h w.0, w.1)) s all init r road.runs (gathered_none init none) ran

filter_sift : (f : Sensors) (xs : List ℕ) → filter f xs ≡ sift f xs
filter_sift f [] = refl
filter_sift f (x ∷ xs) = go (f x) (filter_sift f xs)
  where
    go : (b : Bool) → filter f xs ≡ sift f xs → cond b (x ∷ filter f xs) (filter f xs) ≡ cond b (x ∷ []) [] ++ sift f xs
    go true e = ap {B = List ℕ} (λ l. x ∷ l) e
    go false e = e

-- of the sensors, those that pass f
pub gathered_all : (s : Survey) (f : Sensors) → s.count ≤ 64 → ((x : ℕ) → is_sensor s x ≡ false → f x ≡ false) → (set : SensorSet) → Gathered (filter f (numbers 1 s.count)) set
    → set_of set ≡ f
gathered_all s f few outside set h = fun_ext (λ y.
    h y ∙ ap (λ l. up_to 64 y && member y l) (filter_sift f (numbers 1 s.count)) ∙ ap (λ b. up_to 64 y && b) (member_sift f y (numbers 1 s.count)) ∙ go y (is_sensor s y) refl)
  where
    go : (y : ℕ) (b : Bool) → is_sensor s y ≡ b → (up_to 64 y && (member y (numbers 1 s.count) && f y)) ≡ f y
    go y true t =
        let in' = and_parts (leb 1 y) (leb y s.count) t in
        let low = leb-true 1 y in'.0 in
        let high = leb-true y s.count in'.1 in
        ap (λ b. b && (member y (numbers 1 s.count) && f y)) (and_from _ _ in'.0 (le-leb y 64 (omega arith)))
        ∙ ap (λ b. b && f y) (member_numbers y 1 s.count low (omega arith))
    go y false o =
        let none = outside y o in
        ap (λ b. up_to 64 y && (member y (numbers 1 s.count) && b)) none ∙ ap (λ b. up_to 64 y && b) (never (member y (numbers 1 s.count))) ∙ never (up_to 64 y) ∙ sym none

-- of a roster
module _ (r : Roster) (x : ℕ) (o : is_sensor (meaning_of r).survey x ≡ false) where
  pub on_outside : (meaning_of r).on x ≡ false
  on_outside = ap (λ b. b && is_on (state_at r.sensors x)) o

  pub candidates_outside : candidates (meaning_of r) x ≡ false
  candidates_outside = ap (λ b. b && not (member x (meaning_of r).survey.fence)) on_outside
