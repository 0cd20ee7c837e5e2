-- A naming leaves one type for each name: the name's set with the name's place put in. So a type obeys exactly if, for each name it has, it is that type. Assumes nothing.
use mathlib.Core.Path.{◌≡◌, refl, sym, ap, ap₂, ◌∙◌, subst}
use mathlib.Core.Logic.{◌↔◌}
use mathlib.Core.Bool.{Bool, ◌&&◌}
use mathlib.Core.List.Memᴰ
use mathlib.Core.List.{List, [], ◌∷◌, map, map-append}
use Prim.Native.Nat.{ℕ, zero, suc, ◌+◌, ◌-◌, ◌*◌, ◌/◌, ◌%◌, ◌^◌, ◌<◌}
use native.Mathlib.Nat.{add_comm, div-one, mod-lt, mul-le-mul_right, mul-suc, mul-zero, pow-suc}
use native.Mathlib.Omega.{arith}
use lib.Dec.{T, eqb, eqb→eq}
use lib.ListN.{length, get_or, length-map}
use lib.Pow.{high, low, pow-add, pow_pos, shr_lt, shr_mod, shr-shr, split}
use borrow.Author.Tests.{eq-eqb}
use Rattle.ctl.specs.Lists.{◌∈◌, below, count_from, imp}
use Rattle.ctl.specs.Numbers.{digit_at, number, with_place}
use Rattle.ctl.specs.Types.{in_type}
use Rattle.ctl.specs.Tableau.{Tableau, name_places, places_but, set_bits, pack, obeys_from, obeys}
use Rattle.ctl.proofs.BoolLaws.{T_true, and_0, and-1, and_in, imp-in, imp-out}
use Rattle.ctl.proofs.ListLaws.{length-count}
use Rattle.ctl.proofs.NumberLaws.{number_append, window, window-set}
use Rattle.ctl.proofs.NamingLaws.{name-lt, places-but}

-- the first digit, and the later ones
digit-first : (c r : ℕ) → digit_at c r 0 ≡ r % 2 ^ c
digit-first c r = ap (λ k. r / 2 ^ k % 2 ^ c) (mul-zero c) ∙ ap (λ n. n % 2 ^ c) (div-one r)

digit-later : (c r k : ℕ) → digit_at c r (suc k) ≡ digit_at c (r / 2 ^ c) k
digit-later c r k = ap (λ n. n % 2 ^ c) (ap (λ j. r / 2 ^ j) (mul-suc c k ∙ add_comm (c * k) c) ∙ sym (shr-shr r c (c * k)))

-- a set of n - 1 places with one more is a set of n places
pub with-lt : (v n d : ℕ) → v < n → d < 2 ^ (n - 1) → with_place v d < 2 ^ n
unfolding with_place
with-lt v n d h l =
    let m = n - 1 - v in
    let e : m + v ≡ n - 1 = omega arith in
    let f : suc m + v ≡ n = omega arith in
    let hi : d / 2 ^ v < 2 ^ m = shr_lt m v (subst (λ k. d < 2 ^ k) (sym e) l) in
    let top : d / 2 ^ v * 2 + 1 < 2 ^ suc m = omega (arith, pow-suc 2 m) in
    let lo : d % 2 ^ v < 2 ^ v = mod-lt d (pow_pos v) in
    subst (λ k. (d / 2 ^ v * 2 + 1) * 2 ^ v + d % 2 ^ v < 2 ^ k) f (rw (pow-add 2 (suc m) v) (omega (arith, mul-le-mul_right (2 ^ v) top)))

module _ (S : Tableau) (v t : ℕ) (inside : v < length S.ln) (small : t < 2 ^ length S.ln) where
  abbrev above : ℕ
  above = set_bits S - v

  -- the other places of a type, as a number: those above the name move down by one
  pack-but : pack (places_but S v) t ≡ t / 2 ^ suc v * 2 ^ v + t % 2 ^ v
  unfolding pack window
  pack-but =
      ap (λ l. number (map (in_type t) l)) (places-but S v inside)
      ∙ ap number (map-append (in_type t) (below v) (count_from (suc v) above))
      ∙ number_append (map (in_type t) (below v)) (map (in_type t) (count_from (suc v) above))
      ∙ ap₂ (λ k x. x * 2 ^ k + number (map (in_type t) (below v))) (length-map (below v) (in_type t) ∙ length-count 0 v)
      (window-set t (suc v) above ∙ shr_mod above (suc v) (let e : length S.ln ≡ above + suc v = omega arith in subst (λ n. t < 2 ^ n) e small))
      ∙ ap (λ x. t / 2 ^ suc v * 2 ^ v + x) (window-set t 0 v ∙ ap (λ n. n % 2 ^ v) (div-one t))

  -- of the types with the name exactly one has the set d as its other places
  pub named-type : (d : ℕ) → (T (in_type t v) × (pack (places_but S v) t ≡ d)) ↔ (t ≡ with_place v d)
  unfolding with_place
  named-type d = (
    λ h.
        let e : t / 2 ^ suc v * 2 ^ v + t % 2 ^ v ≡ d = sym pack-but ∙ h.1 in
        let has : t / 2 ^ v % 2 ≡ 1 = eqb→eq (t / 2 ^ v % 2) 1 h.0 in
        let up : d / 2 ^ v ≡ t / 2 ^ suc v = ap (λ x. x / 2 ^ v) (sym e) ∙ high (t / 2 ^ suc v) v lo in
        let down : d % 2 ^ v ≡ t % 2 ^ v = ap (λ x. x % 2 ^ v) (sym e) ∙ low (t / 2 ^ suc v) v lo in
        let top : t / 2 ^ v ≡ d / 2 ^ v * 2 + 1 = omega (arith, half) in
        sym (split t v) ∙ ap₂ (λ x y. x * 2 ^ v + y) top (sym down),
    λ e.
        let top : t / 2 ^ v ≡ d / 2 ^ v * 2 + 1 = ap (λ x. x / 2 ^ v) e ∙ high (d / 2 ^ v * 2 + 1) v (mod-lt d (pow_pos v)) in
        let down : t % 2 ^ v ≡ d % 2 ^ v = ap (λ x. x % 2 ^ v) e ∙ low (d / 2 ^ v * 2 + 1) v (mod-lt d (pow_pos v)) in
        let up : t / 2 ^ suc v ≡ d / 2 ^ v = omega (arith, half) in
        (T_true (in_type t v) (eq-eqb (t / 2 ^ v % 2) 1 (omega arith)), pack-but ∙ ap₂ (λ x y. x * 2 ^ v + y) up down ∙ split d v),
  )
    where
      lo : t % 2 ^ v < 2 ^ v
      lo = mod-lt t (pow_pos v)

      half : t / 2 ^ suc v ≡ t / 2 ^ v / 2
      half = let e : v + 1 ≡ suc v = omega arith in ap (λ k. t / 2 ^ k) (sym e) ∙ sym (shr-shr t v 1)

module _ (S : Tableau) (t : ℕ) (small : t < 2 ^ length S.ln) where
  abbrev Named : List ℕ → ℕ → Type 0
  Named vs r = (k : ℕ) → k < length vs → T (in_type t (get_or vs k 0)) → t ≡ with_place (get_or vs k 0) (digit_at (set_bits S) r k)

  one_more : (v : ℕ) (vs : List ℕ) (r : ℕ) → v ∈ name_places S → T (obeys_from S vs (r / 2 ^ set_bits S) t) ↔ Named vs (r / 2 ^ set_bits S) → T (obeys_from S (v ∷ vs) r t) ↔ Named (v ∷ vs) r
  unfolding obeys_from
  one_more v vs r m later = (
    there,
    λ f. and_in mine rest (imp-in (in_type t v) fits (λ h. T_true fits (eq-eqb (pack (places_but S v) t) (r % 2 ^ c) (first.1 (f 0 (omega arith) h ∙ ap (with_place v) (digit-first c r))).1)))
        (later.1 (λ k l h. f (suc k) (omega arith) h ∙ ap (with_place (get_or vs k 0)) (digit-later c r k))),
  )
    where
      c : ℕ
      c = set_bits S

      fits : Bool
      fits = eqb (pack (places_but S v) t) (r % 2 ^ c)

      mine : Bool
      mine = imp (in_type t v) fits

      rest : Bool
      rest = obeys_from S vs (r / 2 ^ c) t

      first : (T (in_type t v) × (pack (places_but S v) t ≡ r % 2 ^ c)) ↔ (t ≡ with_place v (r % 2 ^ c))
      first = named-type S v t (name-lt S m) small (r % 2 ^ c)

      there : T (mine && rest) → Named (v ∷ vs) r
      there h zero l i = first.0 (i, eqb→eq (pack (places_but S v) t) (r % 2 ^ c) (imp-out (in_type t v) fits (and_0 mine rest h) i)) ∙ ap (with_place v) (sym (digit-first c r))
      there h (suc k) l i = later.0 (and-1 mine rest h) k (omega arith) i ∙ ap (with_place (get_or vs k 0)) (sym (digit-later c r k))

  named-iff : (vs : List ℕ) → ((v : ℕ) → v ∈ vs → v ∈ name_places S) → (r : ℕ) → T (obeys_from S vs r t) ↔ Named vs r
  unfolding obeys_from
  named-iff [] sub r = (λ h k l. absurd (omega arith), λ f. tt)
  named-iff (v ∷ vs) sub r = one_more v vs r (sub v (Memᴰ.head refl)) (named-iff vs (λ w m. sub w (Memᴰ.tail m)) (r / 2 ^ set_bits S))

  -- a type obeys a naming if, for each name that it has, it is the type that the name's set leaves
  pub obeys-iff : (r : ℕ) → T (obeys S r t) ↔ ((k : ℕ) → k < length (name_places S) → T (in_type t (get_or (name_places S) k 0)) → t ≡ with_place (get_or (name_places S) k 0) (digit_at (set_bits S) r k))
  unfolding obeys
  obeys-iff r = named-iff (name_places S) (λ v m. m) r
