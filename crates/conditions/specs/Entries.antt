-- Condition words. There are 64 entries, a block of w words each, as truth words have: 0 to 23 have the types that refuse a condition, 32 to 55 those that demand it; 24 to 31 the types that refuse something along a
-- field, 56 to 63 those that demand something along it. Behind them stands for each mode in which entries a type refuses along it: backward, what a type demands forward. Assumes nothing.
use Rattle.std.specs.Prelude.{Bool, not, ◌&&◌, List, ℕ, ◌+◌, ◌*◌, ◌/◌, ◌%◌, get_or}
use Rattle.wordset.specs.Below.{any_below}
use Rattle.wordset.specs.Word.{bit}
use Rattle.truth.specs.Blocks.{has}

-- the entry of the same condition from the other end of a link
abbrev pub partner : ℕ → ℕ
partner c = (c + 32) % 64

-- t is in one of the entries a
unfoldable pub in_some : ℕ → List ℕ → ℕ → ℕ → Bool
in_some w cw a t = any_below 64 (λ c. bit a c && has w cw c t)

-- where u refuses in the entries a: t is linked to u if it demands no condition that u refuses
unfoldable pub linked_by : ℕ → List ℕ → ℕ → ℕ → ℕ → Bool
linked_by w cw a t u = not (any_below 64 (λ c. bit a c && (has w cw (partner c) t && has w cw c u)))

-- t is linked to a type that passes Z
unfoldable pub linked_to : ℕ → List ℕ → ℕ → (ℕ → Bool) → ℕ → Bool
linked_to w cw a Z t = any_below (w * 64) (λ u. Z u && linked_by w cw a t u)

-- the entries in which a type refuses along mode m
abbrev pub side : ℕ → List ℕ → ℕ → ℕ
side w cw m = get_or cw (w * 64 + m) 0

-- the entry of the types that refuse something along mode m
abbrev pub refusing : ℕ → ℕ
refusing m = 24 + m % 8 + m / 8 * 32
