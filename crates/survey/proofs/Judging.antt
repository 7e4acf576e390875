-- What judging accepts keeps the rules, and what keeps them is accepted.
use Rattle.std.proofs.Common.{◌≡◌, ℕ, ◌≤◌, true, false, not, ◌&&◌, length, nat_le, None, sym, ap, ◌∙◌, arith}
use mathlib.Core.Bool.{and-not_self}
use Rattle.std.proofs.lemmas.Bool.{and_parts, and_from, leb-true, le-leb, cond-true, cond-false, not-false, false_from_ne_true}
use Rattle.std.proofs.lemmas.Bool.Decides.{same_from_decides}
use Rattle.refusal.specs.Outcomes.{accepted, refused}
use Rattle.refusal.proofs.Outcomes.{taken_parts, left_parts, same_from_accepted}
use Rattle.survey.specs.Lists.{fitting}
use Rattle.survey.specs.Surveys.{Survey, sensors, edges, triangles, everyone, steps, all_linked, distinct, nobody, one_sided_of, judged, Valid}
use Rattle.survey.proofs.Fences.{length_distinct}
use Rattle.survey.proofs.Lists.{none_fits, member_numbers, any_false, any_none}

-- the rules that judging looks at
pub record Judged (s : Survey) : Type 0 where
  pub long : 3 ≤ length s.fence
  pub different : distinct s.count nobody s.fence ≡ true
  pub two_sided : one_sided_of s ≡ false
  pub few_links : length (edges s everyone) ≤ 512
  pub few_triangles : length (triangles s everyone) ≤ 1024
  pub closed : all_linked s (steps s.fence) ≡ true

pub judged_parts : (s t : Survey) → judged s ≡ accepted t → (s ≡ t) × Judged s
judged_parts s t e =
    let fence = taken_parts _ _ 5 t e in
    let sides = left_parts _ _ 6 t fence.1 in
    let links = taken_parts _ _ 7 t sides.1 in
    let triangles = taken_parts _ _ 8 t links.1 in
    let linked = taken_parts _ _ 9 t triangles.1 in
    let sound = and_parts _ _ fence.0 in (
      same_from_accepted linked.1,
      record {
        long = leb-true _ _ sound.0;
        different = sound.1;
        two_sided = sides.0;
        few_links = leb-true _ _ links.0;
        few_triangles = leb-true _ _ triangles.0;
        closed = linked.0;
      },
    )

pub judged_accepted : (s : Survey) → Judged s → judged s ≡ accepted s
judged_accepted s j =
    cond-true _ _ _ (and_from _ _ (le-leb _ _ j.long) j.different)
    ∙ cond-false _ _ _ j.two_sided
    ∙ cond-true _ _ _ (le-leb _ _ j.few_links)
    ∙ cond-true _ _ _ (le-leb _ _ j.few_triangles)
    ∙ cond-true _ _ _ j.closed

-- a list that does not fit holds a sensor twice, or one that is none
pub long_refused : (s : Survey) → s.count ≤ 64 → None ≡ fitting s.fence → judged s ≡ refused 5
long_refused s few none = cond-false _ _ _ (false_from_ne_true _ apart)
  where
    apart : (nat_le 3 (length s.fence) && distinct s.count nobody s.fence) ≡ true → ⊥
    apart e =
        let parts = and_parts (nat_le 3 (length s.fence)) (distinct s.count nobody s.fence) e in
        omega (arith, none_fits s.fence none, length_distinct s.count s.fence parts.1, few)

-- links that go both ways are those of which none is one-sided

abbrev pub Symmetric : Survey → Type 0
Symmetric s = (x y : ℕ) → s.linked x y ≡ s.linked y x

abbrev pub Inside : Survey → Type 0
Inside s = (x y : ℕ) → s.linked x y ≡ true → (1 ≤ x) × (x ≤ s.count) × (1 ≤ y) × (y ≤ s.count)

pub one_sided_false : (s : Survey) → Symmetric s → one_sided_of s ≡ false
one_sided_false s h =
    any_false _ (sensors s) (λ x. any_false _ (sensors s) (λ y. ap (λ b. b && not (s.linked y x)) (h x y) ∙ and-not_self (s.linked y x)))

-- what x names is a sensor, so the test looked at the pair
linked_back : (s : Survey) → Inside s → one_sided_of s ≡ false → (x y : ℕ) → s.linked x y ≡ true → s.linked y x ≡ true
linked_back s h none x y e =
    let at = h x y e in
    let row = any_none _ (sensors s) x none (member_numbers x 1 s.count at.0 (omega arith)) in
    let pair = any_none _ (sensors s) y row (member_numbers y 1 s.count at.2 (omega arith)) in
    not-false _ (ap (λ b. b && not (s.linked y x)) (sym e) ∙ pair)

pub symmetric_from : (s : Survey) → Inside s → one_sided_of s ≡ false → Symmetric s
symmetric_from s h none x y =
    same_from_decides (s.linked x y) (s.linked y x) (linked_back s h none x y, linked_back s h none y x) ((λ e. e), (λ e. e))

pub valid_from : (s : Survey) → 3 ≤ s.count → s.count ≤ 64 → Inside s → ((x : ℕ) → s.linked x x ≡ false) → Judged s → Valid s
valid_from s least most inside apart j = record {
  least = least;
  most = most;
  inside = inside;
  apart = apart;
  symmetric = symmetric_from s inside j.two_sided;
  long = j.long;
  different = j.different;
  few_links = j.few_links;
  few_triangles = j.few_triangles;
  closed = j.closed;
}

pub judged_valid : (s : Survey) → Valid s → judged s ≡ accepted s
judged_valid s valid = judged_accepted s (record {
  long = valid.long;
  different = valid.different;
  two_sided = one_sided_false s valid.symmetric;
  few_links = valid.few_links;
  few_triangles = valid.few_triangles;
  closed = valid.closed;
})
