-- Document 02 §5: what a formula's search finds is the same whatever the copy held before it. `search` promises `Finds` of the copy as it leaves it, and no word of the copy as it was; so
-- this is said of any two copies that searches leave. Assumes nothing.
use mathlib.Core.Path.{◌≡◌, sym, ap, ◌∙◌}
use mathlib.Core.Bool.{not-not, true, not, ◌&&◌}
use mathlib.Core.List.{List}
use Prim.Native.Nat.{ℕ, ◌*◌, ◌≤◌, ◌<◌}
use lib.ListN.{length}
use Rattle.ctl.specs.Lists.{elem}
use Rattle.wordset.specs.Words.{member}
use Rattle.truth.specs.Tables.{form}
use Rattle.truth.specs.Blocks.{has, list_of}
use Rattle.tableau.specs.Families.{Finds, Good, Within, ranked}
use Rattle.tableau.proofs.NeedFits.{ranked-member}

-- the search for member i, of the types of dst in which it is true
module _ (ms ln : List ℕ) (w : ℕ) (tw src dst : List ℕ) (i : ℕ) (room : w ≤ length src) (within : Within w dst src) where
  -- one that is left in the copy lacks what the member asks for
  pub left-lacks : (copy : List ℕ) → Finds ms ln w tw src dst i copy → (t : ℕ) → t < w * 64 → member dst t ≡ true → has w tw i t ≡ true → member copy t ≡ not (elem t (Good ms ln (list_of w src) (form ms i)))
  left-lacks copy found t l d h =
      sym (not-not (member copy t)) ∙ ap not (ap (λ b. b && not (member copy t)) (sym (within t l d)) ∙ sym (ranked-member w src copy room t l) ∙ found t l d h)

  -- two searches, from copies with different contents, find the same
  pub found-same : (copy copy' : List ℕ) → Finds ms ln w tw src dst i copy → Finds ms ln w tw src dst i copy' → (t : ℕ) → t < w * 64 → member dst t ≡ true → has w tw i t ≡ true
      → (member (ranked w src copy) t ≡ member (ranked w src copy') t) × (member copy t ≡ member copy' t)
  found-same copy copy' found found' t l d h = (found t l d h ∙ sym (found' t l d h), left-lacks copy found t l d h ∙ sym (left-lacks copy' found' t l d h))
