-- One naming by words: what the stores hold after the start and after the rounds, as lists. Assumes nothing.
use mathlib.Core.Path.{◌≡◌, ap, ◌∙◌}
use mathlib.Core.List.{List}
use Prim.Native.Nat.{ℕ, ◌*◌, ◌≤◌, ◌<◌}
use lib.ListN.{length}
use Rattle.ctl.proofs.EliminationLaws.{survivors-ascend, survivors-closed}
use Rattle.ctl.proofs.ListLaws.{Ascending, ascending-count, ascending-keep, below_out, keep_out, keep_same}
use Rattle.ctl.specs.Lists.{◌∈◌, below, elem}
use Rattle.wordset.proofs.PackLaws.{packed-twice}
use Rattle.wordset.specs.Below.{count_below}
use Rattle.wordset.specs.Words.{member, packed}
use Rattle.tableau.specs.declared.table.Counts.{Counts}
use Rattle.members.specs.Members.{forms}
use Rattle.truth.specs.Truths.{Tr}
use Rattle.conditions.specs.Conditions.{Lk}
use Rattle.tableau.specs.Families.{Rounds, Survivors}
use Rattle.truth.specs.Blocks.{list_of}
use Rattle.start.specs.Starts.{start_list, starts_by}
use Rattle.tableau.specs.Tabled.{Tabled}
use Rattle.truth.proofs.ListWords.{count-list, held, list-packed}

-- ---- survivors

-- a store into which the survivors of some start types were packed
pub survivors-list : (ms ln : List ℕ) (w : ℕ) (start d x : List ℕ) → Ascending 0 start → ((t : ℕ) → t ∈ start → t < w * 64) → w ≤ length d
    → x ≡ packed w (λ t. elem t (Survivors ms ln start)) d → list_of w x ≡ Survivors ms ln start
survivors-list ms ln w start d x a b h e =
    list-packed w d x (Survivors ms ln start) h (survivors-ascend (forms ms) (Tr ms ln) (Lk ms ln) start a)
    (λ t m. b t ((survivors-closed (forms ms) (Tr ms ln) (Lk ms ln) start).within t m)) e

-- ---- start types

module _ (w : ℕ) (base names : List ℕ) (n r : ℕ) where
  pub start-ascend : Ascending 0 (start_list w base names n r)
  unfolding start_list
  start-ascend = ascending-keep (starts_by w base names n r) 0 (below (w * 64)) (ascending-count 0 (w * 64))

  pub start-below : (t : ℕ) → t ∈ start_list w base names n r → t < w * 64
  unfolding start_list
  start-below t m = below_out (w * 64) (keep_out (starts_by w base names n r) (below (w * 64)) m).0

  -- x is the first store after the start
  module _ (d x : List ℕ) (h : w ≤ length d) (e : x ≡ packed w (starts_by w base names n r) d) where
    start-list : list_of w x ≡ start_list w base names n r
    unfolding list_of start_list
    start-list =
        keep_same (member x) (starts_by w base names n r) (below (w * 64))
        (λ t m. held (starts_by w base names n r) d x w h e t (below_out (w * 64) m))

    -- y is the first store after the rounds
    pub first-is : (ms ln y : List ℕ) → y ≡ packed w (λ t. elem t (Survivors ms ln (list_of w x))) x → y ≡ packed w (λ t. elem t (Survivors ms ln (start_list w base names n r))) d
    first-is ms ln y ey =
        packed-twice (starts_by w base names n r) (λ t. elem t (Survivors ms ln (start_list w base names n r))) d x y w h e
        (ey ∙ ap (λ s. packed w (λ t. elem t (Survivors ms ln s)) x) start-list)

    -- z is the second one, and c has the counts
    pub table_is : (ms ln second y z : List ℕ) (c : Counts) → c.start ≡ count_below (w * 64) (member x) → c.left ≡ count_below (w * 64) (member y) → c.rounds ≡ Rounds ms ln (list_of w x)
        → y ≡ packed w (λ t. elem t (Survivors ms ln (list_of w x))) x → z ≡ packed w (λ t. elem t (Survivors ms ln (list_of w x))) second
        → Tabled (start_list w base names n r) (Survivors ms ln (start_list w base names n r)) (Rounds ms ln (start_list w base names n r)) w d second y z c
    table_is ms ln second y z c es el er ey ez =
        let q = start-list in
        let y-is = first-is ms ln y ey in
        record {
          started = es ∙ count-list w x ∙ ap length q;
          left_over = el ∙ count-list w y ∙ ap length (survivors-list ms ln w (start_list w base names n r) d y start-ascend start-below h y-is);
          rounds-done = er ∙ ap (Rounds ms ln) q;
          first_holds = y-is;
          second_holds = ez ∙ ap (λ s. packed w (λ t. elem t (Survivors ms ln s)) second) q;
        }
