-- The parts of a need's word: those of the member, or of the field. Assumes nothing.
use mathlib.Core.Path.{◌≡◌, ap, ◌∙◌}
use mathlib.Core.List.{List}
use Prim.Native.Nat.{ℕ, ◌+◌, ◌*◌, ◌^◌, ◌≤◌, ◌<◌}
use native.Mathlib.Omega.{arith}
use lib.Count.{count_trailing_zeros}
use lib.Pow.{pow_mono}
use Rattle.members.specs.Members.{arg_w, left_w, right_w, tag_w, word_of}
use Rattle.truth.specs.Tables.{arg_at, left_at, right_at, tag_at}
use Rattle.members.proofs.ModeLaws.{trailing-pow}
use Rattle.needs.specs.NeedWords.{field_need, mode_w, need_of, whole_w}

-- the power of a field
pub pow_small : (f : ℕ) → f < 8 → 2 ^ f ≤ 128
pow_small f h = let l : f ≤ 7 = omega arith in pow_mono l

-- ---- the need of a member

module _ (ms : List ℕ) (i : ℕ) where
  pub need-tag : tag_w (need_of ms i) ≡ tag_at ms i
  need-tag = omega arith

  pub need-arg : arg_w (need_of ms i) ≡ arg_at ms i
  need-arg = omega arith

  pub need-left : left_w (need_of ms i) ≡ left_at ms i
  need-left = omega arith

  pub need-right : right_w (need_of ms i) ≡ right_at ms i
  need-right = omega arith

  pub need-whole : i < 256 → whole_w (need_of ms i) ≡ i
  need-whole h = omega arith

  pub need-mode : (m : ℕ) → m < 64 → arg_at ms i ≡ 2 ^ m → mode_w (need_of ms i) ≡ m
  need-mode m h e = ap (count_trailing_zeros 64) (need-arg ∙ e) ∙ trailing-pow m h

-- ---- the need of a field

over : (lo hi : ℕ) → lo < 68719476736 → hi < 256 → whole_w (lo + hi * 68719476736) ≡ hi
over lo hi h k = omega arith

module _ (n f : ℕ) (h : f < 8) (k : n ≤ 240) where
  pub field-tag : tag_w (field_need n f) ≡ 6
  field-tag = omega arith

  pub field-arg : arg_w (field_need n f) ≡ 2 ^ f
  field-arg = let p = pow_small f h in omega arith

  pub field-left : left_w (field_need n f) ≡ n + 8
  field-left = let p = pow_small f h in omega arith

  pub field-whole : whole_w (field_need n f) ≡ n + f
  field-whole = let p = pow_small f h in over (word_of 6 (2 ^ f) (n + 8) 0) (n + f) (omega arith) (omega arith)

  pub field-mode : mode_w (field_need n f) ≡ f
  field-mode = ap (count_trailing_zeros 64) field-arg ∙ trailing-pow f (omega arith)
