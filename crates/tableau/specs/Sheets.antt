-- What a naming's table comes to, from what it is made from. Assumes nothing.
use Rattle.std.specs.Prelude.{List, ℕ, length}
use Rattle.start.specs.Starts.{start_list}
use Rattle.tableau.specs.declared.words.Sheet.{Sheet}
use Rattle.tableau.specs.Families.{Ready, Rounds, Survivors}

-- the words are those of its members under its lean
abbrev pub Prepared : Sheet → Type 0
Prepared s = Ready s.ms.now s.ln.now s.words.w s.words.tw.now s.words.cw.now s.words.ns.now

-- naming r: its start types, its surviving types, and its rounds
abbrev pub starts_of : Sheet → ℕ → List ℕ
starts_of s r = start_list s.words.w s.base.now s.names.now (length s.ln.now) r

abbrev pub survivors_of : Sheet → ℕ → List ℕ
survivors_of s r = Survivors s.ms.now s.ln.now (starts_of s r)

abbrev pub rounds_of : Sheet → ℕ → ℕ
rounds_of s r = Rounds s.ms.now s.ln.now (starts_of s r)
