-- What the definitions give for the worked halls, with every sensor on unless it says otherwise.
use Rattle.std.specs.Prelude.{◌≡◌, Bool, true, false, List, [], ◌∷◌, ℕ, length}
use Rattle.refusal.specs.declared.Refusal.TheVariants.{StoreFull, NoFilling}
use Rattle.refusal.specs.Numbers.{number_of}
use Rattle.refusal.specs.Outcomes.{accepted, refused}
use Rattle.field.specs.Arithmetic.{Arithmetic}
use Rattle.field.specs.Bits.{binary_field}
use Rattle.field.specs.Residues.{prime_field}
use Rattle.survey.specs.Sets.{all_of, leaving}
use Rattle.survey.specs.Surveys.{Survey, Sensors}
use Rattle.sparse.specs.Cells.{sparse_terms}
use Rattle.text.specs.Text.{text}
use Rattle.complex.specs.Boundaries.{system}
use Rattle.orders.specs.Keyed.{number_order}
use Rattle.orders.specs.Orders.{Order}
use Rattle.homology.specs.Certificate.{certificate}
use Rattle.homology.specs.Examples.{hub, three, crossed, beside, twin_hubs}
use Rattle.homology.specs.Reduction.{peak}
use Rattle.runs.specs.Calls.{certify_outcome, thin_outcome}
use Rattle.runs.specs.Refusals.{Room}

-- the hub's sensors without the one in its middle
abbrev pub corners : Sensors
corners = leaving 5 (all_of hub)

-- places for any survey
abbrev pub ample : Room
ample = record { edges = 512; triangles = 1024; codes = 1024; drops = 64 }

-- the certificate of a set is a filling, or a block, with these codes after so many additions
module _ (s : Survey) (on : Sensors) (F : Arithmetic) (codes : List ℕ) (additions : ℕ) where
  pub record Certifies (filled : Bool) : Type 0 where
    pub kind : (certificate s on F).filled ≡ filled
    pub are : (certificate s on F).codes ≡ codes
    pub count : (certificate s on F).additions ≡ additions

  abbrev pub Fills : Type 0
  Fills = Certifies true

  abbrev pub Blocks : Type 0
  Blocks = Certifies false

pub record WorkedHalls : Type 0 where
  -- the hub: a square with a sensor in its middle that is linked to all four corners
  pub hub_over_3 : Fills hub (all_of hub) (prime_field 3) (1 ∷ (2 ∷ (1 ∷ (1 ∷ [])))) 4
  pub hub_over_2 : Fills hub (all_of hub) binary_field (1 ∷ (1 ∷ (1 ∷ (1 ∷ [])))) 4
  pub hub_peak : peak (prime_field 3) (system hub (all_of hub) (prime_field 3)) ≡ 26
  pub hub_with_26_cells : certify_outcome hub (prime_field 3) (sparse_terms 26 5) (all_of hub) ample ≡ accepted (certificate hub (all_of hub) (prime_field 3))
  pub hub_with_25_cells : certify_outcome hub (prime_field 3) (sparse_terms 25 5) (all_of hub) ample ≡ refused (number_of StoreFull)
  pub hub_text : length (text hub) ≡ 124
  -- with 5 off the block has 1 on the edge from 3 to 4, the last of four, and there is nothing to thin in any order
  pub open_blocks : Blocks hub corners (prime_field 3) (0 ∷ (0 ∷ (0 ∷ (1 ∷ [])))) 0
  pub open_not_thinned : (O : Order hub) → thin_outcome hub (prime_field 3) (sparse_terms 1000 100) O corners ample ≡ refused (number_of NoFilling)
  -- three sensors all linked, the fence one way round and the other
  pub one_way : Fills (three (1 ∷ (2 ∷ (3 ∷ [])))) (all_of (three (1 ∷ (2 ∷ (3 ∷ []))))) (prime_field 3) (1 ∷ []) 1
  pub other_way : Fills (three (1 ∷ (3 ∷ (2 ∷ [])))) (all_of (three (1 ∷ (3 ∷ (2 ∷ []))))) (prime_field 3) (2 ∷ []) 1
  -- a square with the diagonal from 1 to 3
  pub diagonal : Fills crossed (all_of crossed) (prime_field 3) (1 ∷ (1 ∷ [])) 2
  -- a square without it, where 5 is linked to 1, 3 and 4: the edges are (1,2) (1,4) (1,5) (2,3) (3,4) (3,5) (4,5)
  pub beside_blocks : Blocks beside (all_of beside) (prime_field 3) (0 ∷ (0 ∷ (0 ∷ (0 ∷ (1 ∷ (1 ∷ (0 ∷ []))))))) 1
  -- two hubs in one square: by number 5 is dropped, and then 6 is needed
  pub twins_thinned : thin_outcome twin_hubs binary_field (sparse_terms 1000 100) (number_order twin_hubs) (all_of twin_hubs) ample
      ≡ accepted (record { dropped = 5 ∷ []; last = leaving 5 (all_of twin_hubs) })
  pub half_modulo_251_lem : (prime_field 251).inverse 2 ≡ 126
