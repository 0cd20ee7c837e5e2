-- The answer on a snapshot's text is the one that the documents say. Assumes nothing.
use Prim.Native.Nat.{ℕ, zero, suc, ◌+◌, ◌*◌, ◌≤◌, ◌<◌}
use native.Mathlib.Omega.{arith}
use mathlib.Core.Path.{◌≡◌, refl, sym, ap, ◌∙◌, subst}
use mathlib.Core.Logic.{◌⊎◌, inl, inr}
use mathlib.Core.Bool.{Bool, true, false, cond, ◌&&◌}
use mathlib.Core.List.{List}
use lib.Dec.{eqb, leb}
use lib.ListN.{length, get_or, replicate}
use borrow.Author.Tests.{eqb-true, eqb-false, eq-eqb, leb-true, leb-false, lt-ltb, not-true, not-false}
use Rattle.wordset.specs.Below.{any_below}
use Rattle.wordset.proofs.BelowLaws.{lt-or-le, all-elim, any_false, any-intro}
use Rattle.ctl.specs.Lists.{◌∈◌, ExactlyOne}
use Rattle.ctl.specs.Snapshot.{entry, of_lines, NamesSingle, values_of, ValuesSingle}
use Rattle.ctl.proofs.BoolLaws.{true-T, T_true, and_both, and-make}
use Rattle.ctl.proofs.ListLaws.{kept-below}
use Rattle.std.specs.Prelude.{Result, Ok}
use Rattle.refusal.specs.declared.Refusal.{Refusal}
use Rattle.snapshot_text.specs.Store.{entry_at}
use Rattle.snapshot_text.specs.Text.{Text, Taken}
use Rattle.snapshot_text.specs.Lines.{line_count, line_store}
use Rattle.snapshot.specs.Read.{limit, line_fits, fits, on_count, twice, is_value, held_count, not_one, judged, read_snapshot}
use Rattle.snapshot.specs.Answered.{Above, Within, OnTwo, Holds, NoneOrSeveral, none, several, NotOne, Held, Answered, no_text, too-high, on-two, not-one, of-nodes}
use Rattle.snapshot_text.proofs.ReadLaws.{get_d_past}
use Rattle.snapshot.proofs.EntryLaws.{entry_fits, name_twice, held_not_one, value-nodes, judged-13, judged-14, judged-15, judged-17, judged-nodes}
use Rattle.snapshot.proofs.CountLaws.{some-fails, some-passes, Two, two-counted, counted_same, only-counted, not-one-counted}
use Rattle.snapshot_text.proofs.TextLaws.{same-snapshot, taken, text-taken}
use Rattle.snapshot_text.proofs.OnlyLines.{same_lines}

-- ---- the values that a node holds, by kind and entry, and in the snapshot

abbrev values : List ℕ → List ℕ
values kinds = values_of (is_value kinds) (length kinds)

value_in : (kinds : List ℕ) (k : ℕ) → k < length kinds → get_or kinds k 0 ≡ 4 → k ∈ values kinds
value_in kinds k h e = (kept-below (is_value kinds) (length kinds) k).1 (h, T_true (is_value kinds k) (eq-eqb (get_or kinds k 0) 4 e))

module _ (kinds : List ℕ) (lines : List (List ℕ)) (i : ℕ) where
  holds-value : (k : ℕ) → Holds kinds lines i k → (k ∈ values kinds) × ((of_lines lines).on k i ≡ true)
  unfolding of_lines
  holds-value k h = (value_in kinds k h.is-symbol h.is-value, eq-eqb (entry lines k i) 1 h.on)

  value-holds : (k : ℕ) → k ∈ values kinds → (of_lines lines).on k i ≡ true → Holds kinds lines i k
  unfolding of_lines
  value-holds k m o =
      let v = (kept-below (is_value kinds) (length kinds) k).0 m in
      record { is-symbol = v.0; is-value = eqb-true (get_or kinds k 0) 4 (true-T (is_value kinds k) v.1); on = eqb-true (entry lines k i) 1 o }

  not-exactly : NoneOrSeveral kinds lines i → (v : ℕ) → v ∈ values kinds → ExactlyOne (values kinds) (λ k. (of_lines lines).on k i ≡ true) → ⊥
  not-exactly (none g) v m f = let w = f v m in g w.0 (value-holds w.0 w.1 w.2)
  not-exactly (several j k l p q) v m f =
      let w = f v m in
      let x = holds-value j p in
      let y = holds-value k q in
      let e = w.3 j x.0 x.1 in
      let d = w.3 k y.0 y.1 in
      omega arith

module _ (kinds : List ℕ) (h8 : length kinds ≤ 8) (out : List ℕ) (lines : List (List ℕ)) (e : (i k : ℕ) → entry_at out i k ≡ entry lines k i) where
  -- ---- the entries of the store are those of the lines
  entry-is : (i k : ℕ) → k < length kinds → get_or out (i * 8 + k) 0 ≡ entry lines k i
  unfolding entry_at
  entry-is i k h = ap (λ b. cond b (get_or out (i * 8 + k) 0) 0) (sym (lt-ltb k 8 (omega arith))) ∙ e i k

  -- ---- limits
  above : fits kinds (length lines) out ≡ false → Above kinds lines
  unfolding fits line_fits entry_fits
  above f =
      let r = some-fails (line_fits kinds (length lines) out) (length lines) f in
      let q = some-fails (entry_fits kinds (length lines) out r.0) (length kinds) r.2 in
      record {
        node = r.0;
        symbol = q.0;
        is-node = r.1;
        is-symbol = q.1;
        above = subst (λ v. limit (get_or kinds q.0 0) (length lines) < v) (entry-is r.0 q.0 q.1) (leb-false (get_or out (r.0 * 8 + q.0) 0) (limit (get_or kinds q.0 0) (length lines)) q.2);
      }

  within : fits kinds (length lines) out ≡ true → Within kinds lines
  unfolding fits line_fits entry_fits
  within f i k hi hk =
      subst (λ v. v ≤ limit (get_or kinds k 0) (length lines)) (entry-is i k hk)
      (leb-true (get_or out (i * 8 + k) 0) (limit (get_or kinds k 0) (length lines))
      (all-elim (entry_fits kinds (length lines) out i) (length kinds) (all-elim (line_fits kinds (length lines) out) (length lines) f i hi) k hk))

  -- ---- names
  -- symbol k is on node i of the store
  abbrev stored_on : ℕ → ℕ → Bool
  stored_on k i = eqb (get_or out (i * 8 + k) 0) 1

  stored_is : (i k : ℕ) → k < length kinds → stored_on k i ≡ eqb (entry lines k i) 1
  stored_is i k h = ap (λ v. eqb v 1) (entry-is i k h)

  on-entry : (i k : ℕ) → k < length kinds → stored_on k i ≡ true → entry lines k i ≡ 1
  on-entry i k h f = sym (entry-is i k h) ∙ eqb-true (get_or out (i * 8 + k) 0) 1 f

  two : twice kinds (length lines) out ≡ true → OnTwo kinds lines
  unfolding twice name_twice
  two f =
      let r = some-passes (name_twice kinds (length lines) out) (length kinds) f in
      let q = and_both (eqb (get_or kinds r.0 0) 2) (leb 2 (on_count out (length lines) r.0)) r.2 in
      let t = two-counted (stored_on r.0) (length lines) (leb-true 2 (on_count out (length lines) r.0) q.1) in
      record {
        symbol = r.0;
        first = t.first;
        second = t.second;
        is-symbol = r.1;
        is_name = eqb-true (get_or kinds r.0 0) 2 q.0;
        apart = t.apart;
        is-node = t.within;
        on-first = on-entry t.first r.0 r.1 t.first_passes;
        on-second = on-entry t.second r.0 r.1 t.second-passes;
      }

  on-few : (k : ℕ) → twice kinds (length lines) out ≡ false → k < length kinds → get_or kinds k 0 ≡ 2 → on_count out (length lines) k < 2
  unfolding twice name_twice
  on-few k f h g =
      leb-false 2 (on_count out (length lines) k)
      (ap (λ b. b && leb 2 (on_count out (length lines) k)) (sym (eq-eqb (get_or kinds k 0) 2 g)) ∙ any_false (name_twice kinds (length lines) out) (length kinds) f k h)

  single : twice kinds (length lines) out ≡ false → NamesSingle (λ k. eqb (get_or kinds k 0) 2) (of_lines lines)
  unfolding of_lines
  single f k t i j hi hj oi oj = go (lt-or-le k (length kinds))
    where
      name : get_or kinds k 0 ≡ 2
      name = eqb-true (get_or kinds k 0) 2 (true-T (eqb (get_or kinds k 0) 2) t)

      go : (k < length kinds) ⊎ (length kinds ≤ k) → i ≡ j
      go (inr h) = absurd (let g = name in omega (arith, get_d_past kinds k h))
      go (inl h) = let c = on-few k f h name in counted_same (stored_on k) (length lines) (omega arith) i j hi hj (stored_is i k h ∙ oi) (stored_is j k h ∙ oj)

  -- ---- values
  -- symbol k is a value, and node i of the store holds it
  abbrev stored-value : ℕ → ℕ → Bool
  stored-value i k = is_value kinds k && stored_on k i

  stored-holds : (i k : ℕ) → k < length kinds → stored-value i k ≡ true → Holds kinds lines i k
  stored-holds i k h f =
      let q = and_both (is_value kinds k) (stored_on k i) f in
      record { is-symbol = h; is-value = eqb-true (get_or kinds k 0) 4 q.0; on = on-entry i k h q.1 }

  holds-stored : (i k : ℕ) → Holds kinds lines i k → stored-value i k ≡ true
  holds-stored i k h =
      and-make (is_value kinds k) (stored_on k i) (eq-eqb (get_or kinds k 0) 4 h.is-value) (stored_is i k h.is-symbol ∙ eq-eqb (entry lines k i) 1 h.on)

  none-or-several : (i : ℕ) → held_not_one kinds out i ≡ true → NoneOrSeveral kinds lines i
  none-or-several i f = go (not-one-counted (stored-value i) (length kinds) (eqb-false (held_count kinds out i) 1 (not-true (eqb (held_count kinds out i) 1) f)))
    where
      go : ((k : ℕ) → k < length kinds → stored-value i k ≡ true → ⊥) ⊎ Two (stored-value i) (length kinds) → NoneOrSeveral kinds lines i
      go (inl g) = none (λ k h. g k h.is-symbol (holds-stored i k h))
      go (inr t) =
          let l = t.apart in
          let h = t.within in
          several t.first t.second l (stored-holds i t.first (omega arith) t.first_passes) (stored-holds i t.second h t.second-passes)

  not-one-held : not_one kinds (length lines) out ≡ true → NotOne kinds lines
  unfolding not_one
  not-one-held f =
      let q = and_both (any_below (length kinds) (is_value kinds)) (any_below (length lines) (held_not_one kinds out)) f in
      let v = some-passes (is_value kinds) (length kinds) q.0 in
      let r = some-passes (held_not_one kinds out) (length lines) q.1 in
      record { value = v.0; node = r.0; is-symbol = v.1; is-value = eqb-true (get_or kinds v.0 0) 4 v.2; is-node = r.1; wrong = none-or-several r.0 r.2 }

  one-held : not_one kinds (length lines) out ≡ false → ValuesSingle (values kinds) (of_lines lines)
  unfolding of_lines
  one-held f i l v m =
      let d = (kept-below (is_value kinds) (length kinds) v).0 m in
      let any = any-intro (is_value kinds) (length kinds) v d.0 (true-T (is_value kinds v) d.1) in
      let c = any_false (held_not_one kinds out) (length lines) (sym (value-nodes kinds (length lines) out any) ∙ f) i l in
      let r = only-counted (stored-value i) (length kinds) (eqb-true (held_count kinds out i) 1 (not-false (eqb (held_count kinds out i) 1) c)) in
      let w = holds-value kinds lines i r.the (stored-holds i r.the r.within r.passes) in
      (r.the, w.0, w.1, λ j n o. let h = value-holds kinds lines i j n o in r.no_other j h.is-symbol (holds-stored i j h))

  -- ---- the answer on lines
  lines-answered : (line s : List ℕ) → Text line (length kinds) s lines → Answered line kinds s out (judged kinds (length lines) out)
  lines-answered line s t = go (fits kinds (length lines) out) (twice kinds (length lines) out) (not_one kinds (length lines) out) refl refl refl
    where
      some : length lines ≡ 0 → ⊥
      some z = let h = t.some in omega arith

      -- a case's answer is the one that is judged
      given : {a : Result ℕ Refusal} → a ≡ judged kinds (length lines) out → Answered line kinds s out a → Answered line kinds s out (judged kinds (length lines) out)
      given q x = subst (Answered line kinds s out) q x

      go : (b c d : Bool) → fits kinds (length lines) out ≡ b → twice kinds (length lines) out ≡ c → not_one kinds (length lines) out ≡ d
          → Answered line kinds s out (judged kinds (length lines) out)
      go false c d f g h = given (judged-14 kinds (length lines) out some f) (too-high lines t (above f))
      go true true d f g h = given (judged-15 kinds (length lines) out some f g) (on-two lines t (within f) (two g))
      go true false true f g h = given (judged-17 kinds (length lines) out some f g h) (not-one lines t (within f) (single g) (not-one-held h))
      go true false false f g h = given (judged-nodes kinds (length lines) out some f g h) (of-nodes (length lines) (record {
        lines = lines;
        text = t;
        count = refl;
        within = within f;
        legal = record { names-single = single g; values-single = one-held h };
        same = same-snapshot out (length lines) lines refl e;
      }))

module _ (line kinds s : List ℕ) (h1 : 1 ≤ length kinds) (h8 : length kinds ≤ 8) where
  abbrev store : List ℕ
  store = line_store line (length kinds) s (replicate 128 0)

  by_count : (n : ℕ) → line_count line (length kinds) s (replicate 128 0) ≡ n → Answered line kinds s store (judged kinds n store)
  by_count zero e =
      subst (Answered line kinds s store) (judged-13 kinds 0 store refl)
      (no_text (λ lines t. let h = t.some in let g = text-taken line (length kinds) s (replicate 128 0) lines h1 t in omega arith))
  by_count (suc n) e = go (taken line (length kinds) s (suc n) h1 h8 (omega arith) e)
    where
      go : Taken line (length kinds) s store (suc n) → Answered line kinds s store (judged kinds (suc n) store)
      go t = subst (λ m. Answered line kinds s store (judged kinds m store)) t.count (lines-answered kinds h8 store t.lines t.entries line s t.text)

  -- The answer on a text that is read into a store of zeros
  pub answered : Answered line kinds s (line_store line (length kinds) s (replicate 128 0)) (read_snapshot line kinds s (replicate 128 0))
  unfolding read_snapshot
  answered = by_count (line_count line (length kinds) s (replicate 128 0)) refl

  -- The same from what the contract of `read` says
  pub read-answered : (r : Result ℕ Refusal) (out : List ℕ) → r ≡ read_snapshot line kinds s (replicate 128 0) → out ≡ line_store line (length kinds) s (replicate 128 0) → Answered line kinds s out r
  read-answered r out e f = subst (λ (o : List ℕ). Answered line kinds s o r) (sym f) (subst (Answered line kinds s store) (sym e) answered)

-- ---- one answer only

module _ {line kinds s : List ℕ} (h1 : 1 ≤ length kinds) {a b : List (List ℕ)} (t : Text line (length kinds) s a) (u : Text line (length kinds) s b) where
  not-both : Above kinds a → Within kinds b → ⊥
  not-both x w =
      let y = subst (Above kinds) (same_lines line (length kinds) s a b h1 t u) x in
      let h = w y.node y.symbol y.is-node y.is-symbol in
      let g = y.above in
      omega arith

  not-single : OnTwo kinds a → NamesSingle (λ k. eqb (get_or kinds k 0) 2) (of_lines b) → ⊥
  unfolding of_lines
  not-single x f =
      let y = subst (OnTwo kinds) (same_lines line (length kinds) s a b h1 t u) x in
      let h = y.apart in
      let g = y.is-node in
      let e : y.first ≡ y.second = f y.symbol (T_true (eqb (get_or kinds y.symbol 0) 2) (eq-eqb (get_or kinds y.symbol 0) 2 y.is_name)) y.first y.second (omega arith) g
      (eq-eqb (entry b y.symbol y.first) 1 y.on-first) (eq-eqb (entry b y.symbol y.second) 1 y.on-second) in
      omega arith

  not-valued : NotOne kinds a → ValuesSingle (values kinds) (of_lines b) → ⊥
  unfolding of_lines
  not-valued x f =
      let y = subst (NotOne kinds) (same_lines line (length kinds) s a b h1 t u) x in
      not-exactly kinds b y.node y.wrong y.value (value_in kinds y.value y.is-symbol y.is-value) (f y.node y.is-node)

module _ {line kinds s out : List ℕ} (h1 : 1 ≤ length kinds) where
  -- The cases of an answer exclude each other
  pub one_answer : {a b : Result ℕ Refusal} → Answered line kinds s out a → Answered line kinds s out b → a ≡ b
  one_answer (no_text f) (no_text g) = refl
  one_answer (no_text f) (too-high l t x) = absurd (f l t)
  one_answer (no_text f) (on-two l t w x) = absurd (f l t)
  one_answer (no_text f) (not-one l t w g x) = absurd (f l t)
  one_answer (no_text f) (of-nodes n h) = absurd (f h.lines h.text)
  one_answer (too-high l t x) (no_text f) = absurd (f l t)
  one_answer (too-high l t x) (too-high k u y) = refl
  one_answer (too-high l t x) (on-two k u w y) = absurd (not-both h1 t u x w)
  one_answer (too-high l t x) (not-one k u w g y) = absurd (not-both h1 t u x w)
  one_answer (too-high l t x) (of-nodes n h) = absurd (not-both h1 t h.text x h.within)
  one_answer (on-two l t w x) (no_text f) = absurd (f l t)
  one_answer (on-two l t w x) (too-high k u y) = absurd (not-both h1 u t y w)
  one_answer (on-two l t w x) (on-two k u v y) = refl
  one_answer (on-two l t w x) (not-one k u v g y) = absurd (not-single h1 t u x g)
  one_answer (on-two l t w x) (of-nodes n h) = absurd (not-single h1 t h.text x h.legal.names-single)
  one_answer (not-one l t w g x) (no_text f) = absurd (f l t)
  one_answer (not-one l t w g x) (too-high k u y) = absurd (not-both h1 u t y w)
  one_answer (not-one l t w g x) (on-two k u v y) = absurd (not-single h1 u t y g)
  one_answer (not-one l t w g x) (not-one k u v f y) = refl
  one_answer (not-one l t w g x) (of-nodes n h) = absurd (not-valued h1 t h.text x h.legal.values-single)
  one_answer (of-nodes n h) (no_text f) = absurd (f h.lines h.text)
  one_answer (of-nodes n h) (too-high l t x) = absurd (not-both h1 t h.text x h.within)
  one_answer (of-nodes n h) (on-two l t w x) = absurd (not-single h1 t h.text x h.legal.names-single)
  one_answer (of-nodes n h) (not-one l t w g x) = absurd (not-valued h1 t h.text x h.legal.values-single)
  one_answer (of-nodes n h) (of-nodes m k) = ap Ok (sym h.count ∙ ap length (same_lines line (length kinds) s h.lines k.lines h1 h.text k.text) ∙ k.count)

-- What a node count says
pub nodes-held : {line kinds s out : List ℕ} {n : ℕ} → Answered line kinds s out (Ok n) → Held line kinds s out n
nodes-held (of-nodes n h) = h
