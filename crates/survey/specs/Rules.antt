-- The rules of a survey are a proposition, so that a survey in memory can carry them.
use Rattle.std.specs.Prelude.{◌≡◌, Bool}
use Rattle.std.specs.Coded.{Coded-set, coded_bool, le_prop}
use Rattle.survey.specs.Surveys.{Survey, Valid}

same : (p q : Bool) → IsProp (p ≡ q)
same p q = Coded-set coded_bool p q

pub Valid-prop : (s : Survey) → IsProp (Valid s)
Valid-prop s p q = λ i. record {
  least = le_prop p.least q.least i;
  most = le_prop p.most q.most i;
  inside = λ x y e. (le_prop (p.inside x y e).0 (q.inside x y e).0 i, le_prop (p.inside x y e).1 (q.inside x y e).1 i, le_prop (p.inside x y e).2 (q.inside x y e).2 i, le_prop (p.inside x y e).3 (q.inside x y e).3 i);
  apart = λ x. same _ _ (p.apart x) (q.apart x) i;
  symmetric = λ x y. same _ _ (p.symmetric x y) (q.symmetric x y) i;
  long = le_prop p.long q.long i;
  different = same _ _ p.different q.different i;
  few_links = le_prop p.few_links q.few_links i;
  few_triangles = le_prop p.few_triangles q.few_triangles i;
  closed = same _ _ p.closed q.closed i;
}
