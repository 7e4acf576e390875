-- The multiplier of a, reduced modulo p, is the inverse of a.
use Rattle.std.proofs.Common.{◌≡◌, ℕ, ◌<◌, ◌≤◌, pos, nat_abs, sym, ap, ◌∙◌, arith, w32, SFits, rules}
use Rattle.std.proofs.lemmas.Int.{to_z-of_z, to_z_pos}
use Rattle.std.specs.Int.{int_rem_euclid}
use Rattle.field.specs.Primes.{OddPrime}
use Rattle.field.specs.Residues.{inverse_modulo}
use Rattle.field.specs.Euclid.{remainder_found}
use Rattle.field.specs.Guarding.{inside, outside}
use Rattle.field.specs.Modulo.{inverse_of_zero}
use Rattle.field.proofs.gfp.GfPField.inverse.Goals as goal
use Rattle.field.proofs.gfp.GfPField.inverse.Goals.{then-a-eq0-via-then-a-eq0, then-a-eq0-via-else-a-eq0+then-a-self}

pub returns-then-a-eq0 : goal.returns-then-a-eq0
returns-then-a-eq0 c =
    let p : ℕ = c.args.self.now.p in
    let low : 3 ≤ p = c.args.self.now.odd_prime.least in
    elim c.then-a-eq0.branch [
      | then-a-eq0-via-then-a-eq0 w ↦ rw w.if-a-eq0.true (sym (inside p (inverse_modulo p) 0 (omega arith) ∙ inverse_of_zero p))
      | then-a-eq0-via-else-a-eq0+then-a-self w ↦ sym (outside p (inverse_modulo p) c.args.a w.if-a-self.true)
    ]

pub returns : goal.returns
returns c =
    let f = c.args.self.now in
    let o : OddPrime f.p = f.odd_prime in
    let low : 3 ≤ f.p = o.least in
    let most : f.p ≤ 251 = o.most in
    let within : c.args.a < f.p = c.if-a-self.false in
    let x = c.extended_gcd-x.result.1 in
    let x_fits : SFits w32 x = search rules in
    let r_fits : SFits w32 c.rem_euclid.result = search rules in
    let reduced : c.rem_euclid.result ≡ int_rem_euclid x (pos f.p)
    = simp (to_z-of_z w32 x x_fits, to_z_pos w32 f.p (omega arith)) at c.rem_euclid.ensures.value in
    let found = remainder_found f.p c.args.a _ _ _ o (omega arith) within c.extended_gcd-x.ensures in
    ap nat_abs (to_z-of_z w32 c.rem_euclid.result r_fits ∙ reduced ∙ found) ∙ sym (inside f.p (inverse_modulo f.p) c.args.a within)
