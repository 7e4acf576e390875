-- A loop that names a rising list, one by one.
use Rattle.std.proofs.Common.{◌≡◌, ℕ, zero, suc, ◌+◌, ◌<◌, ◌≤◌, ◌⊎◌, Bool, true, false, cond, not, ◌&&◌, ◌||◌, eqb, ltb, leb, List, [], ◌∷◌, length, get_or, take, drop, sym, refl, ap, ◌∙◌, subst, inl, inr, arith}
use Rattle.std.proofs.lemmas.List.{at_drop_more, at_drop_all, take_more, take_all}
use Rattle.std.proofs.lemmas.Bool.Decides.{nat_tests}
use Rattle.refusal.specs.Outcomes.{accepted, refused}
use Rattle.refusal.proofs.Outcomes.{refused_accepted, taken_parts, same_from_accepted}
use Rattle.survey.specs.declared.neighbours.Neighbours.{Neighbours}
use Rattle.survey.specs.Lists.{member}
use Rattle.survey.proofs.Lists.{member_push}
use Rattle.survey.specs.Surveys.{Survey}
use Rattle.survey.specs.Tables.{at}
use Rattle.survey.specs.Views.{drawn, naming, two_sensors, with_name}
use Rattle.text.specs.Reading.{rising}
use Rattle.text.specs.Lines.{NamesAll}
use Rattle.text.proofs.Rising.{Ascends}

-- the number before the place i, and 0 at the start
abbrev pub before_at : List ℕ → ℕ → ℕ
before_at list i = get_or (0 ∷ list) i 0

-- the loop is at the place i of the list: the rest has to rise from the one before, and those passed are named
pub record NamesOn (old now : Neighbours) (x i : ℕ) (list : List ℕ) : Type 0 where
  pub ascends : Ascends list
  pub rises : rising old.count x (before_at list i) (drop i list) ≡ rising old.count x 0 list
  pub named : NamesAll old x (take i list) now

pub names_on_none : (old : Neighbours) (x : ℕ) (list : List ℕ) → Ascends list → NamesOn old old x 0 list
names_on_none old x list a =
    record { ascends = a; rises = refl; named = record { count = refl; rows = λ a b. sym (ap (λ t. t || at old.rows a b) (none (eqb a x))) } }
  where
    none : (p : Bool) → (p && false) ≡ false
    none true = refl
    none false = refl

module _ (old now : Neighbours) (x i : ℕ) (list : List ℕ) (on : NamesOn old now x i list) where
  abbrev n : ℕ
  n = old.count

  abbrev y : ℕ
  y = get_or list i 0

  abbrev before : ℕ
  before = before_at list i

  -- what the next has to be
  abbrev follows : Bool
  follows = ltb before y && leb y n && not (eqb y x)

  rises_next : i < length list → rising n x 0 list ≡ (follows && rising n x y (drop (i + 1) list))
  rises_next l = sym on.rises ∙ at_drop_more (rising n x before) list i 0 l

  above : (i : ℕ) → i < length list → (before_at list i ≡ 0) ⊎ (before_at list i < get_or list i 0)
  above zero l = inl refl
  above (suc j) l = let e : j + 1 ≡ suc j = omega arith in inr (rw (sym e) (on.ascends j (omega arith)))

  -- two different sensors follow each other exactly if they rise
  follows_two : i < length list → 1 ≤ x → x ≤ n → two_sensors (drawn now []) x y ≡ follows
  follows_two l a b = let same = on.named.count in let up = above i l in grind (arith, nat_tests)

  pub names_on_refused : (k : ℕ) → i < length list → 1 ≤ x → x ≤ n → refused k ≡ naming (drawn now []) x y → (rising n x 0 list ≡ false) × (k ≡ 4)
  names_on_refused k l a b e = go (two_sensors (drawn now []) x y) (follows_two l a b) e
    where
      go : (t : Bool) → t ≡ follows → refused k ≡ cond t (accepted (with_name (drawn now []) x y)) (refused 4) → (rising n x 0 list ≡ false) × (k ≡ 4)
      go true f e = absurd (refused_accepted e)
      go false f e = let four : k ≡ 4 = cc in (rises_next l ∙ ap (λ t. t && rising n x y (drop (i + 1) list)) (sym f), four)

  pub names_on_all : length list ≤ i → (rising n x 0 list ≡ true) × NamesAll old x list now
  names_on_all l =
      (sym on.rises ∙ at_drop_all (rising n x before) list i l, subst (λ (xs : List ℕ). NamesAll old x xs now) (take_all i list l) on.named)

  pub names_on_more : (new : Neighbours) → i < length list → 1 ≤ x → x ≤ n → accepted (drawn new []) ≡ naming (drawn now []) x y → NamesOn old new x (i + 1) list
  names_on_more new l a b e =
      let p = taken_parts (two_sensors (drawn now []) x y) (accepted (with_name (drawn now []) x y)) 4 (drawn new []) (sym e) in
      let same : with_name (drawn now []) x y ≡ drawn new [] = same_from_accepted p.1 in
      let next : i + 1 ≡ suc i = omega arith in
      record {
        ascends = on.ascends;
        rises =
            ap (λ k. rising n x (before_at list k) (drop (i + 1) list)) next
            ∙ sym (rises_next l ∙ ap (λ t. t && rising n x y (drop (i + 1) list)) (sym (follows_two l a b) ∙ p.0));
        named = record {
          count = sym (ap (λ (s : Survey). s.count) same) ∙ on.named.count;
          rows = λ c d.
              sym (ap (λ (s : Survey). s.linked c d) same) ∙ ap (λ t. (eqb c x && eqb d y) || t) (on.named.rows c d)
              ∙ joined (eqb c x) (eqb d y) (member d (take i list)) (at old.rows c d)
              ∙ sym (ap (λ t. (eqb c x && t) || at old.rows c d) (ap (member d) (take_more list i 0 l) ∙ member_push d y (take i list)));
        };
      }
    where
      joined : (p q r o : Bool) → ((p && q) || ((p && r) || o)) ≡ ((p && (q || r)) || o)
      joined true true r o = refl
      joined true false r o = refl
      joined false q r o = refl
