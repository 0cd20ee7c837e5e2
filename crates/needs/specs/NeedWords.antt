-- A need in one word: tag, modes and operands of a closure member as in the table, and behind them the block of the types that have the need. Assumes nothing.
use Rattle.std.specs.Prelude.{List, ℕ, ◌+◌, ◌*◌, ◌/◌, ◌%◌, ◌^◌, get_or}
use Rattle.std.specs.Int.Count.{count_trailing_zeros}
use Rattle.members.specs.Members.{arg_w, word_of}

-- the block of the types that have it
abbrev pub whole_w : ℕ → ℕ
whole_w x = x / 68719476736 % 256

-- the mode of an EX over one mode
abbrev pub mode_w : ℕ → ℕ
mode_w x = count_trailing_zeros 64 (arg_w x)

-- the need of member i
abbrev pub need_of : List ℕ → ℕ → ℕ
need_of ms i = get_or ms i 0 % 68719476736 + i * 68719476736

-- that of all EX over field f alone, behind n members: block n + f has the types in which one of them is true, block n + 8 all types
abbrev pub field_need : ℕ → ℕ → ℕ
field_need n f = word_of 6 (2 ^ f) (n + 8) 0 + (n + f) * 68719476736
