-- Texts put into a buffer one behind the other are one text. Assumes nothing.
use mathlib.Core.Path.{◌≡◌, refl, sym, ap, ap₂, ◌∙◌, subst}
use mathlib.Core.List.{List, [], ◌∷◌, ◌++◌, append_assoc, append-nil}
use Prim.Native.Nat.{ℕ, suc, ◌+◌, ◌≤◌, ◌<◌}
use native.Mathlib.Nat.{add_assoc, add-zero}
use native.Mathlib.Numerals.{add-one}
use native.Mathlib.Omega.{arith}
use lib.ListN.{length, get_or, take, drop, set, length-append, length-set, take-append-drop}
use lib.Seq.{append_snoc, drop-append-add, drop-drop, length-paste, length-take-le, paste, paste-suc, paste-zero, set_split, take_at, take-length}
use Rattle.buffer.specs.Put.{Put}

front_length : (n : ℕ) (text out : List ℕ) → n ≤ length out → length (take n out ++ text) ≡ n + length text
front_length n text out h = length-append (take n out) text ∙ ap (λ k. k + length text) (length-take-le n out h)

-- the bytes in use are those that were, and the text
pub put_front : {n r : ℕ} {text out out' : List ℕ} → n ≤ length out → Put n text out out' r → take r out' ≡ take n out ++ text
put_front {n} {r} {text} {out} h p = ap₂ take p.used p.holds ∙ take_at (take n out ++ text) (drop (n + length text) out) (n + length text) (front_length n text out h)

pub put-join : {n m r : ℕ} {a b out out₁ out₂ : List ℕ} → n ≤ length out → Put n a out out₁ m → Put m b out₁ out₂ r → Put n (a ++ b) out out₂ r
put-join {n} {m} {r} {a} {b} {out} {out₁} {out₂} h p q = record { holds = joined; used = q.used ∙ ap (λ k. k + length b) p.used ∙ long }
  where
    long : n + length a + length b ≡ n + length (a ++ b)
    long = add_assoc n (length a) (length b) ∙ ap (λ k. n + k) (sym (length-append a b))

    rest : drop (m + length b) out₁ ≡ drop (n + length (a ++ b)) out
    rest =
        ap₂ drop (ap (λ k. k + length b) (p.used ∙ sym (front_length n a out h))) p.holds
        ∙ drop-append-add (take n out ++ a) (drop (n + length a) out) (length b)
        ∙ drop-drop (length b) (n + length a) out
        ∙ ap (λ k. drop k out) long

    joined : out₂ ≡ take n out ++ (a ++ b) ++ drop (n + length (a ++ b)) out
    joined = q.holds ∙ ap₂ (λ l k. l ++ b ++ k) (put_front h p) rest ∙ ap (λ l. l ++ drop (n + length (a ++ b)) out) (append_assoc (take n out) a b)

-- a buffer stays as long as it was
pub put-length : {n r : ℕ} {text out out' : List ℕ} → n + length text ≤ length out → Put n text out out' r → length out' ≡ length out
put-length {n} {r} {text} {out} h p = ap length (p.holds ∙ ap (λ t. take n out ++ t ++ drop (n + length text) out) (sym (take-length text))) ∙ length-paste out n text (length text) h (omega arith)

-- nothing
pub put-none : (n : ℕ) (out : List ℕ) → Put n [] out out n
put-none n out = record { holds = sym (ap₂ (λ l k. l ++ drop k out) (append-nil (take n out)) (add-zero n) ∙ take-append-drop n out); used = omega arith }

-- one byte
pub put_one : (out : List ℕ) (n b : ℕ) → n < length out → Put n (b ∷ []) out (set out n b) (n + 1)
put_one out n b h = record {
  holds = set_split out n b h ∙ sym (append_snoc (take n out) b (drop (suc n) out)) ∙ ap (λ k. take n out ++ (b ∷ []) ++ drop k out) (sym (add-one n));
  used = refl;
}

-- a text, byte by byte, of which i have been copied
pub record Copying (n : ℕ) (text out₀ out : List ℕ) (i at : ℕ) : Type 0 where
  pub within : i ≤ length text
  pub place : at ≡ n + i
  pub pasted : out ≡ paste out₀ n text i
  pub long : length out ≡ length out₀

module _ {n : ℕ} {text out₀ : List ℕ} where
  pub copying-start : Copying n text out₀ out₀ 0 n
  copying-start = record { within = omega arith; place = omega arith; pasted = paste-zero out₀ n text; long = refl }

  pub copying-next : {out : List ℕ} {i at : ℕ} → n + length text ≤ length out₀ → Copying n text out₀ out i at → i < length text → Copying n text out₀ (set out at (get_or text i 0)) (i + 1) (at + 1)
  copying-next {out} {i} {at} h c l =
      let p = c.place in
      let k : n + i < length out₀ = omega arith in
      record {
        within = omega arith;
        place = omega arith;
        pasted = ap₂ (λ o a. set o a (get_or text i 0)) c.pasted p ∙ paste-suc out₀ n text i 0 k l ∙ ap (paste out₀ n text) (sym (add-one i));
        long = length-set out at (get_or text i 0) ∙ c.long;
      }

  -- where the byte was computed
  pub copying-byte : {out : List ℕ} {i at x : ℕ} → n + length text ≤ length out₀ → Copying n text out₀ out i at → i < length text → x ≡ get_or text i 0 → Copying n text out₀ (set out at x) (i + 1) (at + 1)
  copying-byte {out} {i} {at} h c l e = subst (λ x. Copying n text out₀ (set out at x) (i + 1) (at + 1)) (sym e) (copying-next h c l)

  pub copied_all : {out : List ℕ} {i at : ℕ} → Copying n text out₀ out i at → length text ≤ i → Put n text out₀ out at
  copied_all {out} {i} c h =
      let w = c.within in
      let e : i ≡ length text = omega arith in
      record { holds = c.pasted ∙ ap (paste out₀ n text) e ∙ ap (λ t. take n out₀ ++ t ++ drop (n + length text) out₀) (take-length text); used = c.place ∙ ap (λ k. n + k) e }
