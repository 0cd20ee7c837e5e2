-- The closure is the least saturated set with the formulas, and has no member twice. Assumes nothing.
use mathlib.Core.Path.{◌≡◌, refl, sym, subst}
use mathlib.Core.Bool.{Bool, true, false, not}
use mathlib.Core.Logic.{◌⊎◌, inl, inr}
use mathlib.Core.List.Memᴰ
use mathlib.Core.List.{List, [], ◌∷◌, ◌++◌, map}
use Prim.Native.Nat.{ℕ, ◌^◌}
use lib.Dec.{T}
use Rattle.ctl.specs.Lists.{◌∈◌, put}
use Rattle.ctl.specs.Sorting.{Unique, none, more}
use Rattle.ctl.specs.Formula.{Form, tru, fls, lit, nlit, and, or, ex, ax, eu, au, er, ar}
use Rattle.ctl.specs.Modes.{modes}
use Rattle.ctl.specs.Equality.{form_eq}
use Rattle.ctl.specs.Expansion.{or_all, and_all, ex_each, ax_each, expand, parts}
use Rattle.ctl.specs.Closure.{Saturated, elem_f, dedupe, or_spine, and_spine, ex_spine, ax_spine, spine, closure_of, closure_all, closure}
use Rattle.ctl.proofs.BoolLaws.{T_true}
use Rattle.ctl.proofs.ListLaws.{any-in, any_out}
use Rattle.ctl.proofs.FormulaLaws.{form_eq-out, form_eq-refl}
use Rattle.ctl.proofs.ModeLaws.{modes-one, modes-in}

-- ---- what holds of each formula of a list

abbrev Each : (Form → Type 0) → List Form → Type 0
Each P [] = Unit {0}
Each P (p ∷ l) = P p × Each P l

each-out : (P : Form → Type 0) {p : Form} {l : List Form} → Each P l → p ∈ l → P p
each-out P {p} e (Memᴰ.head i) = subst P (sym i) e.0
each-out P e (Memᴰ.tail m) = each-out P e.1 m

each_in : (P : Form → Type 0) (l : List Form) → ((p : Form) → p ∈ l → P p) → Each P l
each_in P [] f = tt
each_in P (p ∷ l) f = (f p (Memᴰ.head refl), each_in P l (λ q m. f q (Memᴰ.tail m)))

each_append : (P : Form → Type 0) (k l : List Form) → Each P k → Each P l → Each P (k ++ l)
each_append P [] l a b = b
each_append P (p ∷ k) l a b = (a.0, each_append P k l a.1 b)

each_left : (P : Form → Type 0) (k l : List Form) → Each P (k ++ l) → Each P k
each_left P [] l a = tt
each_left P (p ∷ k) l a = (a.0, each_left P k l a.1)

each_right : (P : Form → Type 0) (k l : List Form) → Each P (k ++ l) → Each P l
each_right P [] l a = a
each_right P (p ∷ k) l a = each_right P k l a.1

pub elem_f-in : {p : Form} {l : List Form} → p ∈ l → T (elem_f p l)
unfolding elem_f
elem_f-in {p} m = any-in (form_eq p) m (form_eq-refl p)

pub elem_f-out : (p : Form) (l : List Form) → T (elem_f p l) → p ∈ l
unfolding elem_f
elem_f-out p l t = let r = any_out (form_eq p) l t in Memᴰ.cast (form_eq-out p r.0 r.2) r.1

pub dedupe-in : (l : List Form) {p : Form} → p ∈ l → p ∈ dedupe l
unfolding dedupe
dedupe-in [] m = absurd (Memᴰ.not-nil m)
dedupe-in (q ∷ l) {p} m = go (elem_f q l) refl (Memᴰ.cases_cons m) (λ k. dedupe-in l k) (λ k. dedupe-in l k)
  where
    go : (b : Bool) → elem_f q l ≡ b → (p ≡ q) ⊎ (p ∈ l) → (p ∈ l → p ∈ dedupe l) → (q ∈ l → q ∈ dedupe l) → p ∈ put (not b) q (dedupe l)
    go true e (inl i) rec rec' = Memᴰ.cast i (rec' (elem_f-out q l (T_true (elem_f q l) e)))
    go true e (inr k) rec rec' = rec k
    go false e (inl i) rec rec' = Memᴰ.head i
    go false e (inr k) rec rec' = Memᴰ.tail (rec k)

pub dedupe-out : (l : List Form) {p : Form} → p ∈ dedupe l → p ∈ l
unfolding dedupe
dedupe-out [] m = m
dedupe-out (q ∷ l) {p} m = go (not (elem_f q l)) m (λ k. dedupe-out l k)
  where
    go : (b : Bool) → p ∈ put b q (dedupe l) → (p ∈ dedupe l → p ∈ l) → p ∈ q ∷ l
    go true (Memᴰ.head i) rec = Memᴰ.head i
    go true (Memᴰ.tail k) rec = Memᴰ.tail (rec k)
    go false k rec = Memᴰ.tail (rec k)

dedupe-unique : (l : List Form) → Unique (dedupe l)
unfolding dedupe
dedupe-unique [] = none
dedupe-unique (q ∷ l) = go (elem_f q l) refl (dedupe-unique l)
  where
    go : (b : Bool) → elem_f q l ≡ b → Unique (dedupe l) → Unique (put (not b) q (dedupe l))
    go true e u = u
    go false e u = more (λ m. subst T e (elem_f-in (dedupe-out l m))) u

-- ---- it is within every such set

module _ (Q : Form → Type 0) (sat : Saturated Q) where
  first : (p q : Form) {l : List Form} → Q p → parts p ≡ q ∷ l → Q q
  first p q h e = sat.part p q h (subst (λ l. q ∈ l) (sym e) (Memᴰ.head refl))

  second : (p q : Form) {r : Form} {l : List Form} → Q p → parts p ≡ r ∷ (q ∷ l) → Q q
  second p q h e = sat.part p q h (subst (λ l. q ∈ l) (sym e) (Memᴰ.tail (Memᴰ.head refl)))

  or-least : (l : List Form) → Q (or_all l) → Each Q (or_spine l)
  unfolding or_spine parts
  or-least [] h = (h, tt)
  or-least (p ∷ []) h = (h, tt)
  or-least (p ∷ (q ∷ r)) h = (h, (first (or p (or_all (q ∷ r))) p h refl, or-least (q ∷ r) (second (or p (or_all (q ∷ r))) (or_all (q ∷ r)) h refl)))

  and-least : (l : List Form) → Q (and_all l) → Each Q (and_spine l)
  unfolding and_spine parts
  and-least [] h = (h, tt)
  and-least (p ∷ []) h = (h, tt)
  and-least (p ∷ (q ∷ r)) h = (h, (first (and p (and_all (q ∷ r))) p h refl, and-least (q ∷ r) (second (and p (and_all (q ∷ r))) (and_all (q ∷ r)) h refl)))

  ex-least : (A : ℕ) (p : Form) → Q (ex A p) → Each Q (ex_spine A p)
  unfolding ex_spine expand
  ex-least A p h = (h, or-least (ex_each A p) (sat.expansion (ex A p) h))

  ax-least : (A : ℕ) (p : Form) → Q (ax A p) → Each Q (ax_spine A p)
  unfolding ax_spine expand
  ax-least A p h = (h, and-least (ax_each A p) (sat.expansion (ax A p) h))

  spine-least : (p : Form) → Q p → Each Q (spine p)
  unfolding spine parts expand
  spine-least tru h = (h, tt)
  spine-least fls h = (h, tt)
  spine-least (lit k) h = (h, tt)
  spine-least (nlit k) h = (h, (first (nlit k) (lit k) h refl, tt))
  spine-least (and p q) h = (h, tt)
  spine-least (or p q) h = (h, tt)
  spine-least (ex A p) h = ex-least A p h
  spine-least (ax A p) h = ax-least A p h
  spine-least (eu A p q) h =
      let s = eu A p q in
      let x = sat.expansion s h in
      let y = second (or q (and p (ex A s))) (and p (ex A s)) x refl in
      (h, (x, (y, ex-least A s (second (and p (ex A s)) (ex A s) y refl))))
  spine-least (ar A p q) h =
      let s = ar A p q in
      let x = sat.expansion s h in
      let y = second (and q (or p (ax A s))) (or p (ax A s)) x refl in
      (h, (x, (y, ax-least A s (second (or p (ax A s)) (ax A s) y refl))))
  spine-least (au A p q) h =
      let s = au A p q in
      let b = and (ex A tru) (ax A s) in
      let x = sat.expansion s h in
      let y = second (or q (and p b)) (and p b) x refl in
      let z = second (and p b) b y refl in
      let e = first b (ex A tru) z refl in
      (h, (x, (y, (z, (first (ex A tru) tru e refl, each_append Q (ex_spine A tru) (ax_spine A s) (ex-least A tru e) (ax-least A s (second b (ax A s) z refl)))))))
  spine-least (er A p q) h =
      let s = er A p q in
      let b = or (ax A fls) (ex A s) in
      let x = sat.expansion s h in
      let y = second (and q (or p b)) (or p b) x refl in
      let z = second (or p b) b y refl in
      let e = first b (ax A fls) z refl in
      (h, (x, (y, (z, (first (ax A fls) fls e refl, each_append Q (ax_spine A fls) (ex_spine A s) (ax-least A fls e) (ex-least A s (second b (ex A s) z refl)))))))

  two : (x p q : Form) → parts x ≡ p ∷ (q ∷ []) → Q x → (Q p → Each Q (closure_of p)) → (Q q → Each Q (closure_of q)) → Each Q (spine x ++ (closure_of p ++ closure_of q))
  two x p q e h f g = each_append Q (spine x) (closure_of p ++ closure_of q) (spine-least x h) (each_append Q (closure_of p) (closure_of q) (f (first x p h e)) (g (second x q h e)))

  least-of : (p : Form) → Q p → Each Q (closure_of p)
  unfolding closure_of parts
  least-of tru h = spine-least tru h
  least-of fls h = spine-least fls h
  least-of (lit k) h = spine-least (lit k) h
  least-of (nlit k) h = spine-least (nlit k) h
  least-of (and p q) h = two (and p q) p q refl h (least-of p) (least-of q)
  least-of (or p q) h = two (or p q) p q refl h (least-of p) (least-of q)
  least-of (ex A p) h = each_append Q (spine (ex A p)) (closure_of p) (spine-least (ex A p) h) (least-of p (first (ex A p) p h refl))
  least-of (ax A p) h = each_append Q (spine (ax A p)) (closure_of p) (spine-least (ax A p) h) (least-of p (first (ax A p) p h refl))
  least-of (eu A p q) h = two (eu A p q) p q refl h (least-of p) (least-of q)
  least-of (au A p q) h = two (au A p q) p q refl h (least-of p) (least-of q)
  least-of (er A p q) h = two (er A p q) p q refl h (least-of p) (least-of q)
  least-of (ar A p q) h = two (ar A p q) p q refl h (least-of p) (least-of q)

  least-all : (l : List Form) → Each Q l → Each Q (closure_all l)
  unfolding closure_all
  least-all [] h = tt
  least-all (p ∷ l) h = each_append Q (closure_of p) (closure_all l) (least-of p h.0) (least-all l h.1)

  -- the closure is within every saturated set that has the formulas
  pub closure-least : (l : List Form) → ((p : Form) → p ∈ l → Q p) → (p : Form) → p ∈ closure l → Q p
  unfolding closure
  closure-least l h p m = each-out Q (least-all l (each_in Q l h)) (dedupe-out (closure_all l) m)

-- ---- and it is such a set

-- a formula has itself in its closure
self-of : (p : Form) → p ∈ closure_of p
unfolding closure_of spine ex_spine ax_spine
self-of tru = Memᴰ.head refl
self-of fls = Memᴰ.head refl
self-of (lit k) = Memᴰ.head refl
self-of (nlit k) = Memᴰ.head refl
self-of (and p q) = Memᴰ.head refl
self-of (or p q) = Memᴰ.head refl
self-of (ex A p) = Memᴰ.head refl
self-of (ax A p) = Memᴰ.head refl
self-of (eu A p q) = Memᴰ.head refl
self-of (au A p q) = Memᴰ.head refl
self-of (er A p q) = Memᴰ.head refl
self-of (ar A p q) = Memᴰ.head refl

-- what a list C lends: that a formula of it has its parts and its expansion in it
module _ (C : List Form) where
  abbrev In : Form → Type 0
  In p = p ∈ C

  record Full (p : Form) : Type 0 where
    parts_in : Each In (parts p)
    expand-in : expand p ∈ C

  or-head : (l : List Form) → Each In (or_spine l) → or_all l ∈ C
  unfolding or_spine
  or-head [] h = h.0
  or-head (p ∷ []) h = h.0
  or-head (p ∷ (q ∷ r)) h = h.0

  and-head : (l : List Form) → Each In (and_spine l) → and_all l ∈ C
  unfolding and_spine
  and-head [] h = h.0
  and-head (p ∷ []) h = h.0
  and-head (p ∷ (q ∷ r)) h = h.0

  fls-full : In fls → Full fls
  unfolding parts expand
  fls-full m = record { parts_in = tt; expand-in = m }

  tru-full : In tru → Full tru
  unfolding parts expand
  tru-full m = record { parts_in = tt; expand-in = m }

  or-two : (p q : Form) → In (or p q) → In p → In q → Full (or p q)
  unfolding parts expand
  or-two p q m a b = record { parts_in = (a, (b, tt)); expand-in = m }

  and-two : (p q : Form) → In (and p q) → In p → In q → Full (and p q)
  unfolding parts expand
  and-two p q m a b = record { parts_in = (a, (b, tt)); expand-in = m }

  or-full : (f : ℕ → Form) (ms : List ℕ) → ((m : ℕ) → m ∈ ms → In (f m) → Full (f m)) → Each In (or_spine (map f ms)) → Each Full (or_spine (map f ms))
  unfolding or_spine
  or-full f [] g h = (fls-full h.0, tt)
  or-full f (a ∷ []) g h = (g a (Memᴰ.head refl) h.0, tt)
  or-full f (a ∷ (b ∷ r)) g h = (
    or-two (f a) (or_all (map f (b ∷ r))) h.0 h.1.0 (or-head (map f (b ∷ r)) h.1.1),
    (g a (Memᴰ.head refl) h.1.0, or-full f (b ∷ r) (λ m k. g m (Memᴰ.tail k)) h.1.1),
  )

  and-full : (f : ℕ → Form) (ms : List ℕ) → ((m : ℕ) → m ∈ ms → In (f m) → Full (f m)) → Each In (and_spine (map f ms)) → Each Full (and_spine (map f ms))
  unfolding and_spine
  and-full f [] g h = (tru-full h.0, tt)
  and-full f (a ∷ []) g h = (g a (Memᴰ.head refl) h.0, tt)
  and-full f (a ∷ (b ∷ r)) g h = (
    and-two (f a) (and_all (map f (b ∷ r))) h.0 h.1.0 (and-head (map f (b ∷ r)) h.1.1),
    (g a (Memᴰ.head refl) h.1.0, and-full f (b ∷ r) (λ m k. g m (Memᴰ.tail k)) h.1.1),
  )

  ex-full : (A : ℕ) (p : Form) → In p → Each In (ex_spine A p) → Each Full (ex_spine A p)
  unfolding ex_spine parts expand
  ex-full A p m h = (
    record { parts_in = (m, tt); expand-in = or-head (ex_each A p) h.1 },
    or-full (λ a. ex (2 ^ a) p) (modes A)
        (λ a k i. record { parts_in = (m, tt); expand-in = subst (λ l. or_all (map (λ b. ex (2 ^ b) p) l) ∈ C) (sym (modes-one (modes-in A k).0)) i }) h.1,
  )

  ax-full : (A : ℕ) (p : Form) → In p → Each In (ax_spine A p) → Each Full (ax_spine A p)
  unfolding ax_spine parts expand
  ax-full A p m h = (
    record { parts_in = (m, tt); expand-in = and-head (ax_each A p) h.1 },
    and-full (λ a. ax (2 ^ a) p) (modes A)
        (λ a k i. record { parts_in = (m, tt); expand-in = subst (λ l. and_all (map (λ b. ax (2 ^ b) p) l) ∈ C) (sym (modes-one (modes-in A k).0)) i }) h.1,
  )

  -- a formula's own closure members, where its operands are in C
  eu-full : (A : ℕ) (p q : Form) → In p → In q → Each In (spine (eu A p q)) → Each Full (spine (eu A p q))
  unfolding spine parts expand ex_spine
  eu-full A p q mp mq h =
      let s = eu A p q in (
        record { parts_in = (mp, (mq, tt)); expand-in = h.1.0 },
        (
          or-two q (and p (ex A s)) h.1.0 mq h.1.1.0,
          (and-two p (ex A s) h.1.1.0 mp h.1.1.1.0, ex-full A s h.0 h.1.1.1),
        ),
      )

  ar-full : (A : ℕ) (p q : Form) → In p → In q → Each In (spine (ar A p q)) → Each Full (spine (ar A p q))
  unfolding spine parts expand ax_spine
  ar-full A p q mp mq h =
      let s = ar A p q in (
        record { parts_in = (mp, (mq, tt)); expand-in = h.1.0 },
        (
          and-two q (or p (ax A s)) h.1.0 mq h.1.1.0,
          (or-two p (ax A s) h.1.1.0 mp h.1.1.1.0, ax-full A s h.0 h.1.1.1),
        ),
      )

  au-full : (A : ℕ) (p q : Form) → In p → In q → Each In (spine (au A p q)) → Each Full (spine (au A p q))
  unfolding spine parts expand ex_spine ax_spine
  au-full A p q mp mq h =
      let s = au A p q in
      let b = and (ex A tru) (ax A s) in
      let e = each_left In (ex_spine A tru) (ax_spine A s) h.1.1.1.1.1 in
      let a = each_right In (ex_spine A tru) (ax_spine A s) h.1.1.1.1.1 in (
        record { parts_in = (mp, (mq, tt)); expand-in = h.1.0 },
        (
          or-two q (and p b) h.1.0 mq h.1.1.0,
          (
            and-two p b h.1.1.0 mp h.1.1.1.0,
            (
              and-two (ex A tru) (ax A s) h.1.1.1.0 e.0 a.0,
              (
                tru-full h.1.1.1.1.0,
                each_append Full (ex_spine A tru) (ax_spine A s) (ex-full A tru h.1.1.1.1.0 e) (ax-full A s h.0 a),
              ),
            ),
          ),
        ),
      )

  er-full : (A : ℕ) (p q : Form) → In p → In q → Each In (spine (er A p q)) → Each Full (spine (er A p q))
  unfolding spine parts expand ex_spine ax_spine
  er-full A p q mp mq h =
      let s = er A p q in
      let b = or (ax A fls) (ex A s) in
      let a = each_left In (ax_spine A fls) (ex_spine A s) h.1.1.1.1.1 in
      let e = each_right In (ax_spine A fls) (ex_spine A s) h.1.1.1.1.1 in (
        record { parts_in = (mp, (mq, tt)); expand-in = h.1.0 },
        (
          and-two q (or p b) h.1.0 mq h.1.1.0,
          (
            or-two p b h.1.1.0 mp h.1.1.1.0,
            (
              or-two (ax A fls) (ex A s) h.1.1.1.0 a.0 e.0,
              (
                fls-full h.1.1.1.1.0,
                each_append Full (ax_spine A fls) (ex_spine A s) (ax-full A fls h.1.1.1.1.0 a) (ex-full A s h.0 e),
              ),
            ),
          ),
        ),
      )

  both-full : (x p q : Form) → (In p → In q → Each In (spine x) → Each Full (spine x)) → (Each In (closure_of p) → Each Full (closure_of p)) → (Each In (closure_of q) → Each Full (closure_of q))
      → Each In (spine x ++ (closure_of p ++ closure_of q)) → Each Full (spine x ++ (closure_of p ++ closure_of q))
  both-full x p q f fp fq h =
      let r = each_right In (spine x) (closure_of p ++ closure_of q) h in
      let hp = each_left In (closure_of p) (closure_of q) r in
      let hq = each_right In (closure_of p) (closure_of q) r in
      each_append Full (spine x) (closure_of p ++ closure_of q) (f (each-out In hp (self-of p)) (each-out In hq (self-of q)) (each_left In (spine x) (closure_of p ++ closure_of q) h))
      (each_append Full (closure_of p) (closure_of q) (fp hp) (fq hq))

  one-full : (x p : Form) → (In p → Each In (spine x) → Each Full (spine x)) → (Each In (closure_of p) → Each Full (closure_of p)) → Each In (spine x ++ closure_of p) → Each Full (spine x ++ closure_of p)
  one-full x p f fp h =
      let hp = each_right In (spine x) (closure_of p) h in
      each_append Full (spine x) (closure_of p) (f (each-out In hp (self-of p)) (each_left In (spine x) (closure_of p) h)) (fp hp)

  full-of : (p : Form) → Each In (closure_of p) → Each Full (closure_of p)
  unfolding closure_of spine parts expand
  full-of tru h = (tru-full h.0, tt)
  full-of fls h = (fls-full h.0, tt)
  full-of (lit k) h = (record { parts_in = tt; expand-in = h.0 }, tt)
  full-of (nlit k) h = (record { parts_in = (h.1.0, tt); expand-in = h.0 }, (record { parts_in = tt; expand-in = h.1.0 }, tt))
  full-of (and p q) h = both-full (and p q) p q (λ a b i. (and-two p q i.0 a b, tt)) (full-of p) (full-of q) h
  full-of (or p q) h = both-full (or p q) p q (λ a b i. (or-two p q i.0 a b, tt)) (full-of p) (full-of q) h
  full-of (ex A p) h = one-full (ex A p) p (ex-full A p) (full-of p) h
  full-of (ax A p) h = one-full (ax A p) p (ax-full A p) (full-of p) h
  full-of (eu A p q) h = both-full (eu A p q) p q (eu-full A p q) (full-of p) (full-of q) h
  full-of (au A p q) h = both-full (au A p q) p q (au-full A p q) (full-of p) (full-of q) h
  full-of (er A p q) h = both-full (er A p q) p q (er-full A p q) (full-of p) (full-of q) h
  full-of (ar A p q) h = both-full (ar A p q) p q (ar-full A p q) (full-of p) (full-of q) h

  full-all : (l : List Form) → Each In (closure_all l) → Each Full (closure_all l)
  unfolding closure_all
  full-all [] h = tt
  full-all (p ∷ l) h = each_append Full (closure_of p) (closure_all l) (full-of p (each_left In (closure_of p) (closure_all l) h)) (full-all l (each_right In (closure_of p) (closure_all l) h))

module _ (l : List Form) where
  within : (p : Form) → p ∈ closure l → Full (closure l) p
  unfolding closure
  within p m = each-out (Full (closure l)) (full-all (closure l) l (each_in (In (closure l)) (closure_all l) (λ q k. dedupe-in (closure_all l) k))) (dedupe-out (closure_all l) m)

  -- the closure has the parts and the expansions of its members
  pub closure-saturated : Saturated (λ p. p ∈ closure l)
  closure-saturated = record {
    part = λ p q m k. each-out (In (closure l)) (within p m).parts_in k;
    expansion = λ p m. (within p m).expand-in;
  }

  all_of : {p : Form} (k : List Form) → p ∈ k → p ∈ closure_all k
  unfolding closure_all
  all_of k (Memᴰ.head {x = q} {xs = r} e) = Memᴰ.cast e (Memᴰ.append_left (closure_all r) (self-of q))
  all_of k (Memᴰ.tail {x = q} {xs = r} m) = Memᴰ.append_right (closure_of q) (all_of r m)

  -- it has the formulas
  pub closure-has : {p : Form} → p ∈ l → p ∈ closure l
  unfolding closure
  closure-has m = dedupe-in (closure_all l) (all_of l m)

  -- and each of its members once
  pub closure-unique : Unique (closure l)
  unfolding closure
  closure-unique = dedupe-unique (closure_all l)
