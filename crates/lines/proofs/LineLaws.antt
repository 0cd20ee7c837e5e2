-- The texts of a line, put one behind the other, are the line, and it fits where there is room for a line. Assumes nothing.
use mathlib.Core.Path.{◌≡◌, sym, ap, ◌∙◌, subst}
use mathlib.Core.List.{List, ◌++◌, append_assoc}
use Prim.Native.Nat.{ℕ, ◌+◌, ◌≤◌}
use native.Mathlib.Omega.{arith}
use lib.ListN.{length, set}
use Rattle.judge.specs.Judged.{verdict_of}
use Rattle.judge.specs.declared.Verdict.{Verdict}
use Rattle.judge.specs.declared.Verdict.TheVariants.{Open, Unsatisfiable}
use Rattle.layout.specs.Ascii.{ascii}
use Rattle.lines.specs.Lines.{decimal, heading_line, naming_line, refused_line, spaced, verdict_heading, verdict_line}
use Rattle.buffer.specs.Put.{Put}
use Rattle.lines.specs.Room.{Room}
use Rattle.buffer.proofs.PutLaws.{put-join, put_one}

pub spaced-put : {n m : ℕ} {out out₁ : List ℕ} (x : ℕ) → n + 21 ≤ length out → Put n (decimal x) out out₁ m → m ≤ n + 20 → length out₁ ≡ length out → Put n (spaced x) out (set out₁ m 32) (m + 1) × (m + 1 ≤ n + 21)
unfolding spaced
spaced-put {n} {m} {out} {out₁} x h p l e = (put-join (omega arith) p (put_one out₁ m 32 (omega arith)), omega arith)

-- two lines, the second of two parts or of four
two-and-two : (a b c d : List ℕ) → a ++ b ++ c ++ d ≡ a ++ b ++ (c ++ d)
two-and-two a b c d = append_assoc (a ++ b) c d

two-and-four : (a b c d e f : List ℕ) → a ++ b ++ c ++ d ++ e ++ f ≡ a ++ b ++ (c ++ d ++ e ++ f)
two-and-four a b c d e f = simp append_assoc

module _ {n : ℕ} {out newline : List ℕ} (room : Room n out newline) where
  h : n ≤ length out
  h = let s = room.space in omega arith

  module _ {out₁ out₂ : List ℕ} {m r : ℕ} where
    pub heading-put : Put n (ascii "naming start left rounds") out out₁ m → Put m newline out₁ out₂ r → Put n (heading_line newline) out out₂ r × (r ≤ n + 128)
    unfolding heading_line
    heading-put p q = (put-join h p q, omega arith)

  module _ {out₁ out₂ out₃ : List ℕ} {m₁ m₂ r : ℕ} where
    pub refused-put : (k : ℕ) → Put n (ascii "refused ") out out₁ m₁ → Put m₁ (decimal k) out₁ out₂ m₂ × (m₂ ≤ m₁ + 20) → Put m₂ newline out₂ out₃ r → Put n (refused_line k newline) out out₃ r × (r ≤ n + 128)
    unfolding refused_line
    refused-put k p q o = (put-join h (put-join h p q.0) o, omega arith)

  module _ {out₁ out₂ out₃ out₄ out₅ : List ℕ} {m₁ m₂ m₃ m₄ r : ℕ} where
    pub naming-put : (q start left rounds : ℕ) → Put n (spaced q) out out₁ m₁ × (m₁ ≤ n + 21) → Put m₁ (spaced start) out₁ out₂ m₂ × (m₂ ≤ m₁ + 21) → Put m₂ (spaced left) out₂ out₃ m₃ × (m₃ ≤ m₂ + 21)
        → Put m₃ (decimal rounds) out₃ out₄ m₄ × (m₄ ≤ m₃ + 20) → Put m₄ newline out₄ out₅ r → Put n (naming_line q start left rounds newline) out out₅ r × (r ≤ n + 128)
    unfolding naming_line
    naming-put q start left rounds a b c d e = (put-join h (put-join h (put-join h (put-join h a.0 b.0) c.0) d.0) e, omega arith)

  module _ {out₁ out₂ out₃ out₄ : List ℕ} {m₁ m₂ m₃ r : ℕ} (a : Put n (ascii "verdict naming type") out out₁ m₁) (b : Put m₁ newline out₁ out₂ m₂) where
    pub unsatisfiable-put : {v : Verdict} → v ≡ Unsatisfiable → Put m₂ (ascii "unsatisfiable - -") out₂ out₃ m₃ → Put m₃ newline out₃ out₄ r
        → Put n (verdict_heading newline ++ verdict_line (verdict_of v) newline) out out₄ r × (r ≤ n + 128)
    unfolding verdict_heading verdict_line
    unsatisfiable-put {v} i c d = (
      subst (λ t. Put n t out out₄ r) (two-and-two (ascii "verdict naming type") newline (ascii "unsatisfiable - -") newline ∙ ap (λ w. verdict_heading newline ++ verdict_line (verdict_of w) newline) (sym i))
          (put-join h (put-join h (put-join h a b) c) d),
      omega arith,
    )

    pub open-put : {v : Verdict} (q t : ℕ) {out₅ out₆ : List ℕ} {m₄ m₅ : ℕ} → v ≡ Open q t → Put m₂ (ascii "open ") out₂ out₃ m₃ → Put m₃ (spaced q) out₃ out₄ m₄ × (m₄ ≤ m₃ + 21) → Put m₄ (decimal t) out₄ out₅ m₅ × (m₅ ≤ m₄ + 20)
        → Put m₅ newline out₅ out₆ r → Put n (verdict_heading newline ++ verdict_line (verdict_of v) newline) out out₆ r × (r ≤ n + 128)
    unfolding verdict_heading verdict_line
    open-put {v} q t {out₅} {out₆} i c d e f = (
      subst (λ t. Put n t out out₆ r)
          (two-and-four (ascii "verdict naming type") newline (ascii "open ") (spaced q) (decimal t) newline ∙ ap (λ w. verdict_heading newline ++ verdict_line (verdict_of w) newline) (sym i))
          (put-join h (put-join h (put-join h (put-join h (put-join h a b) c) d.0) e.0) f),
      omega arith,
    )
