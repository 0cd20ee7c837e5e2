-- Which members have a need of their own. Assumes nothing.
use mathlib.Core.Path.{◌≡◌, sym, ◌∙◌}
use mathlib.Core.Bool.{true, false, false≢true}
use mathlib.Core.Logic.{◌⊎◌}
use Prim.Native.Nat.{ℕ, ◌^◌, ◌≤◌, ◌<◌}
use native.Mathlib.Omega.{arith}
use lib.Dec.{ltb}
use borrow.Author.Tests.{lt-ltb, ltb-true}
use Rattle.ctl.specs.Modes.{single}
use Rattle.members.proofs.ModeLaws.{mode-one}
use Rattle.members.specs.Members.{arg_w, tag_w}
use Rattle.needs.specs.Listing.{Asks, Own, by_mode, by-until}
use Rattle.needs.proofs.FieldLaws.{mode-is}

module _ (x : ℕ) where
  asks-not : (Own x → ⊥) → Asks x false
  asks-not n = record { on = λ e. absurd (false≢true e); all = λ o. absurd (n o) }

  module _ (g : tag_w x ≡ 6) {r a : ℕ} (ea : a ≡ arg_w x) (m : ((r < 16) × (a ≡ 2 ^ r)) ⊎ ((r ≡ 16) × (single a ≡ true → ⊥))) where
    own-mode : Own x → (8 ≤ r) × (r < 16)
    own-mode (by_mode k h l t e) = let q = mode-is m k l (ea ∙ e) in (omega arith, omega arith)
    own-mode (by-until h l) = absurd (omega arith)

    pub asks-field : r < 8 → Asks x false
    asks-field h = asks-not (λ o. (let w = own-mode o in omega arith))

    pub asks-mode : 8 ≤ r → Asks x (ltb r 16)
    asks-mode h = record {
      on = λ e. (let l = ltb-true r 16 e in by_mode r h l g (sym ea ∙ mode-one m l));
      all = λ o. lt-ltb r 16 (own-mode o).1;
    }
