-- Laws of the first two lines and of the refusals 1 to 5. Assumes nothing.
use mathlib.Core.Path.{◌≡◌, sym, ap, ◌∙◌}
use mathlib.Core.Bool.{true, false}
use mathlib.Core.List.{List, []}
use Prim.Native.Nat.{ℕ, ◌≤◌}
use native.Mathlib.Omega.{arith}
use lib.ListN.{length, get_or, take, drop, length-map}
use lib.Seq.{length-take-le}
use borrow.Author.Tests.{eq-eqb, ne_eqb}
use Rattle.spelling.specs.Spelling.{word}
use Rattle.layout.specs.Text.{part, end_of, split}
use Rattle.head.specs.declared.names.Names.{Names}
use Rattle.head.specs.declared.kinds.Kinds.{Kinds}
use Rattle.layout.specs.Layout.{newline, lines, lines_from, length_wrong, byte_wrong, layout_right, line_of}
use Rattle.layout.proofs.FrontLaws.{layout-parts, sheet-small}
use Rattle.head.specs.Head.{spellings, kinds, NamesAre, KindsAre, layout_refusal, declared, Accepted}
use Rattle.head.proofs.WordLaws.{first}

module _ (s : List ℕ) (at e : ℕ) (is : e ≡ end_of newline s at) (inside : at ≤ length s) (within : e ≤ length s) where
  pub line_first : part s at e ≡ get_or (split newline (drop at s)) 0 []
  line_first = rw (first newline s at e is inside within)

module _ (s : List ℕ) where
  pub head-1 : length_wrong s ≡ true → layout_refusal s ≡ 1
  unfolding layout_refusal
  head-1 a = rw a

  pub head-2 : length_wrong s ≡ false → byte_wrong s ≡ true → layout_refusal s ≡ 2
  unfolding layout_refusal
  head-2 a b = rw (a, b)

  module _ (a : length_wrong s ≡ false) (b : byte_wrong s ≡ false) where
    pub head-3 : layout_right s ≡ false → layout_refusal s ≡ 3
    unfolding layout_refusal
    head-3 c = rw (a, b, c)

    module _ (c : layout_right s ≡ true) where
      pub head-4 : spellings s ≡ [] → layout_refusal s ≡ 4
      unfolding layout_refusal
      head-4 d = rw (a, b, c, d)

      module _ (m : Names) (ms : NamesAre (line_of s 0) m) where
        names-count : m.count ≡ length (spellings s)
        names-count = sym (length-take-le m.count m.words (omega (arith, ms.few, ms.room))) ∙ ap length ms.are ∙ length-map (spellings s) word

        some : length (spellings s) ≡ 0 → ⊥
        some e = omega (arith, names-count, ms.some)

        pub head-5-none : kinds s ≡ [] → layout_refusal s ≡ 5
        unfolding layout_refusal
        head-5-none d = rw (a, b, c, ne_eqb _ _ some, ne_eqb (length (kinds s)) (length (spellings s)) (λ q. some (sym q ∙ ap length d)))

        module _ (k : Kinds) (ks : KindsAre (line_of s 1) k) where
          kinds-count : k.count ≡ length (kinds s)
          kinds-count = sym (length-take-le k.count k.kinds (omega (arith, ks.few, ks.room))) ∙ ap length ks.are

          pub head-5 : (k.count ≡ m.count → ⊥) → layout_refusal s ≡ 5
          unfolding layout_refusal
          head-5 f = rw (a, b, c, ne_eqb _ _ some, ne_eqb (length (kinds s)) (length (spellings s)) (λ q. f (kinds-count ∙ q ∙ sym names-count)))

          none-applies : k.count ≡ m.count → layout_refusal s ≡ 0
          unfolding layout_refusal
          none-applies f = rw (a, b, c, ne_eqb _ _ some, eq-eqb (length (kinds s)) (length (spellings s)) (sym kinds-count ∙ f ∙ names-count))

          pub accepted : (decl : List ℕ) (from : ℕ) → k.count ≡ m.count → decl ≡ declared (take m.count m.words) (take m.count k.kinds)
              → (from ≤ length s) × (lines_from s from ≡ drop 2 (lines s))
              → (layout_refusal s ≡ 0) × Accepted s (record { count = m.count; words = m.words; kinds = k.kinds; decl = decl; from = from })
          accepted decl from f e t = (
            none-applies f,
            record { count = names-count; few = ms.few; words_are = ms.are; kinds-are = rw (← f) ks.are; decl-is = e ∙ rw (ms.are, ← f, ks.are); inside = t.0; third = t.1; short = sheet-small s a; bounded = (layout-parts s c).2 },
          )
