-- What the functions that write condition words leave behind, step by step. Assumes nothing.
use Rattle.std.specs.Prelude.{◌≡◌, Option, Bool, true, ◌&&◌, List, ℕ, ◌+◌, ◌*◌, ◌%◌, ◌^◌, ◌<◌, get_or}
use Rattle.wordset.specs.Word.{bit}
use Rattle.truth.specs.Blocks.{has}
use Rattle.conditions.specs.Entries.{in_some, refusing, side}
use Rattle.conditions.specs.Conditions.{OfPlace, clash}
use Rattle.conditions.specs.declared.Condition.{Condition}

-- entry c has the types that pass P, and the other entries and the sides are as they were
pub record Put (P : ℕ → Bool) (w c : ℕ) (cw cw' : List ℕ) : Type 0 where
  pub is : (t : ℕ) → t < w * 64 → has w cw' c t ≡ P t
  pub entries : (e t : ℕ) → (e ≡ c → ⊥) → t < w * 64 → has w cw' e t ≡ has w cw e t
  pub sides : (m : ℕ) → side w cw' m ≡ side w cw m

-- the conditions below c are put
pub record Sided (ms ln : List ℕ) (w : ℕ) (cw : List ℕ) (c : ℕ) : Type 0 where
  pub low : (m e : ℕ) → m < 8 → bit (side w cw m) e ≡ true → e < c
  pub each : (e : ℕ) → e < c
      → (d : Option Condition) × OfPlace ms ln e d × ((m : ℕ) → m < 8 → (t u : ℕ) → t < w * 64 → u < w * 64 → (bit (side w cw m) e && (has w cw (e + 32) t && has w cw e u)) ≡ clash ms ln d m t u)

-- backward modes have the sides of the fields, moved by 32, and the entries and the fields' sides are as they were
pub record Turned (w : ℕ) (cw cw' : List ℕ) : Type 0 where
  pub back : (m : ℕ) → m < 8 → side w cw' (8 + m) ≡ (side w cw m * 2 ^ 32) % 2 ^ 64
  pub others : (q : ℕ) → q < w * 64 + 8 → get_or cw' q 0 ≡ get_or cw q 0

-- the modes below m have the types that refuse something along them, and the entries of conditions and the sides are as they were
pub record Summed (w : ℕ) (cw cw' : List ℕ) (m : ℕ) : Type 0 where
  pub is : (k : ℕ) → k < m → (t : ℕ) → t < w * 64 → has w cw' (refusing k) t ≡ in_some w cw (side w cw k) t
  pub entries : (c t : ℕ) → c % 32 < 24 → t < w * 64 → has w cw' c t ≡ has w cw c t
  pub sides : (k : ℕ) → side w cw' k ≡ side w cw k
