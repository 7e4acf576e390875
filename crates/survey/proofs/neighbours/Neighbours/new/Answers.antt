-- A table of false names nobody.
use Rattle.std.proofs.Common.{◌≡◌, ℕ, Bool, true, ◌&&◌, leb, [], sym, ap, ◌∙◌, true≢false, rules}
use mathlib.Core.Path.{fun_ext}
use Rattle.std.proofs.lemmas.Bool.{and_parts, leb-true, cond-true}
use Rattle.refusal.specs.Outcomes.{accepted}
use Rattle.survey.proofs.Tables.{at_blank}
use Rattle.survey.proofs.neighbours.Neighbours.new.Goals as goal

pub invariant_of-result : goal.invariant_of-result
invariant_of-result c =
    let n = c.args.count in
    let in' : (leb 3 n && leb n 64) ≡ true = search rules in
    record {
      least = leb-true 3 n (and_parts (leb 3 n) (leb n 64) in').0;
      most = leb-true n 64 (and_parts (leb 3 n) (leb n 64) in').1;
      inside = λ x y e. absurd (true≢false (sym e ∙ at_blank 65 65 x y));
      apart = λ x. at_blank 65 65 x x;
    }

pub returns : goal.returns
returns c =
    let n = c.args.count in
    let in' : (leb 3 n && leb n 64) ≡ true = search rules in
    ap (λ (f : ℕ → ℕ → Bool). accepted (record { count = n; linked = f; fence = [] })) (fun_ext (λ x. fun_ext (λ y. at_blank 65 65 x y)))
    ∙ sym (cond-true _ _ _ in')
