-- A member's print is put in its pieces, one behind the other. Assumes nothing.
use mathlib.Core.Path.{◌≡◌, refl, sym, ap, ◌∙◌, subst}
use mathlib.Core.List.{List, [], ◌∷◌, ◌++◌, append-nil}
use Prim.Native.Nat.{ℕ, ◌+◌, ◌≤◌, ◌<◌}
use native.Mathlib.Omega.{arith}
use native.Mathlib.Decide.{dec_le}
use lib.ListN.{length, get_or, take, set, length-append, length-set}
use Rattle.buffer.specs.Put.{Put}
use Rattle.buffer.proofs.PutLaws.{put-join, put-length, put_one}
use Rattle.members.specs.Grown.{Ready}
use Rattle.members.specs.Members.{tag_w, arg_w, left_w, right_w}
use Rattle.members.proofs.MemberLaws.{Parts}
use Rattle.prints.specs.Prints.{pre_by, mid_by, print_at}
use Rattle.prints.proofs.PieceLaws.{rest_by, rest-leaf, rest-next, rest-join, rest-path}
use Rattle.prints.proofs.PrintLaws.{parts_at, print-node, rest-two}

-- the first operand is no longer than what follows the first piece
rest-long : (t : ℕ) (P Q : List ℕ) → 4 ≤ t → t < 12 → length P ≤ length (rest_by t P Q)
rest-long t P Q h l = elim (dec_le t 5) [
  | yes a ↦ longer (mid_by t ∷ (Q ++ (41 ∷ []))) (rest-join [] t P Q h (omega arith))
  | no a ↦ elim (dec_le t 7) [
    | yes b ↦ (let e = ap length (rest-next [] t P Q (omega arith) (omega arith)) in omega arith)
    | no b ↦ longer (mid_by t ∷ (Q ++ (41 ∷ []))) (rest-path [] t P Q (omega arith) l)
  ]
]
  where
    longer : {r : List ℕ} (s : List ℕ) → r ≡ P ++ s → length P ≤ length r
    longer s e = let f = ap length e in omega (arith, length-append P s)

-- a buffer with room for the print of member i behind the bytes that it holds
pub record Placing (tab : List ℕ) (n : ℕ) (ls : List ℕ) (i at : ℕ) (out : List ℕ) : Type 0 where
  pub ready : Ready tab n
  pub inside : i < n
  pub room : at + length (print_at ls (take n tab) i) ≤ length out

module _ {tab ls out : List ℕ} {n i at : ℕ} (b : Placing tab n ls i at out) where
  abbrev W : ℕ
  W = get_or tab i 0

  abbrev T : ℕ
  T = tag_w W

  abbrev H : List ℕ
  H = pre_by ls T (arg_w W)

  abbrev P : List ℕ
  P = print_at ls (take n tab) (left_w W)

  abbrev Q : List ℕ
  Q = print_at ls (take n tab) (right_w W)

  abbrev Z : List ℕ
  Z = print_at ls (take n tab) i

  pub parts : Parts i W
  parts = parts_at tab n ls b.ready.room b.ready.members i b.inside

  whole : {r : List ℕ} → rest_by T P Q ≡ r → Z ≡ H ++ r
  whole e = print-node tab n ls b.ready.room b.ready.members i b.inside ∙ ap (λ r. H ++ r) e

  long : length Z ≡ length H + length (rest_by T P Q)
  long = ap length (whole refl) ∙ length-append H (rest_by T P Q)

  pub pre-room : at + length H ≤ length out
  pre-room = omega (arith, b.room, long)

  -- the first piece has been put
  module _ {out₁ : List ℕ} {at₁ : ℕ} (p : Put at H out out₁ at₁) where
    pub leaf-put : T < 4 → Put at Z out out₁ at₁
    leaf-put l = subst (λ z. Put at z out out₁ at₁) (sym (whole (rest-leaf ls T P Q l) ∙ append-nil H)) p

    module _ (op : 4 ≤ T) where
      pub left-room : at₁ + length P ≤ length out₁
      left-room = omega (arith, b.room, long, p.used, put-length pre-room p, rest-long T P Q op parts.tag)

      -- and the first operand
      module _ {out₂ : List ℕ} {at₂ : ℕ} (q : Put at₁ P out₁ out₂ at₂) where
        pub next-put : 6 ≤ T → T < 8 → Put at Z out out₂ at₂
        next-put a c = subst (λ z. Put at z out out₂ at₂) (sym (whole (rest-next ls T P Q a c))) (put-join (omega (arith, pre-room)) p q)

        pub left-long : length out₂ ≡ length out
        left-long = put-length left-room q ∙ put-length pre-room p

        module _ (not-ex : T ≡ 6 → ⊥) (not-ax : T ≡ 7 → ⊥) where
          two : rest_by T P Q ≡ P ++ (mid_by T ∷ (Q ++ (41 ∷ [])))
          two = rest-two T P Q op not-ex not-ax parts.tag

          pub mid-room : at₂ + length Q + 2 ≤ length out
          mid-room = let e = ap length two in omega (arith, b.room, long, p.used, q.used, length-append P (mid_by T ∷ (Q ++ (41 ∷ []))), length-append Q (41 ∷ []))

          -- and the byte between the two
          module _ {x : ℕ} (m : x ≡ mid_by T) where
            mid-long : length (set out₂ at₂ x) ≡ length out
            mid-long = length-set out₂ at₂ x ∙ left-long

            pub right-room : at₂ + 1 + length Q ≤ length (set out₂ at₂ x)
            right-room = omega (arith, mid-room, mid-long)

            -- and the second operand
            module _ {out₃ : List ℕ} {at₃ : ℕ} (r : Put (at₂ + 1) Q (set out₂ at₂ x) out₃ at₃) where
              pub close-room : at₃ < length out₃
              close-room = omega (arith, mid-room, mid-long, put-length right-room r, r.used)

              pub two-put : Put at Z out (set out₃ at₃ 41) (at₃ + 1)
              two-put = subst (λ z. Put at z out (set out₃ at₃ 41) (at₃ + 1)) (sym (whole (two ∙ ap (λ y. P ++ (y ∷ (Q ++ (41 ∷ [])))) (sym m))))
                  (put-join (omega (arith, pre-room)) p
                  (put-join (omega (arith, left-room)) q
                  (put-join (omega (arith, mid-room, left-long)) (put_one out₂ at₂ x (omega (arith, mid-room, left-long)))
                  (put-join (omega (arith, right-room)) r (put_one out₃ at₃ 41 close-room)))))
