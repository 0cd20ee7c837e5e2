-- What finding a frame asks at each call, and that what the calls give is the sheet's tableau. Assumes nothing.
use mathlib.Core.Path.{◌≡◌, sym, ap, ap₂, ◌∙◌, subst}
use mathlib.Core.List.{List, map}
use Prim.Native.Nat.{ℕ, ◌-◌, ◌*◌, ◌^◌, ◌≤◌, ◌<◌}
use native.Mathlib.Omega.{arith}
use lib.ListN.{length, get_or, take}
use lib.Pow.{pow_mono}
use lib.Seq.{get_or-take, length-take-le}
use Rattle.ctl.proofs.ListLaws.{get_d-in}
use Rattle.ctl.proofs.NamingLaws.{name-lt}
use Rattle.ctl.specs.Positive.{positive}
use Rattle.ctl.specs.Tableau.{Tableau, name_places, namings, value_places}
use Rattle.sheet.specs.Refusal.{read_refusal}
use Rattle.sheet.specs.Reading.{formulas, goal_of, globals_of}
use Rattle.truth.specs.Tables.{form}
use Rattle.reader.specs.declared.Reading.{Reading}
use Rattle.reader.specs.Reader.{Says}
use Rattle.prepare.specs.Prepared.{kinds_of, lean_of, table_of, tableau_in}
use Rattle.prepare.specs.Places.{places_by, Sought, Found}
use Rattle.prepare.specs.Width.{words_for}
use Rattle.prepare.proofs.Bridge.{formulas-some, global-inside, globals-map, goal, goal-inside, lean-length, leans, placed, table, table-length, tableau-lean}
use Rattle.prepare.proofs.PlaceLaws.{held}
use Rattle.prepare.proofs.PlaceBridge.{names-are, values-are, found-matches, sought}
use Rattle.prepare.proofs.NameCount.{names-two, value-below, values-few}
use Rattle.start.specs.Starts.{Named}
use Rattle.frame.specs.Framed.{Framed, FramedAs, Frames, Given, Sound}
use Rattle.frame.proofs.CopyLaws.{few_bits}

-- ---- lists and numbers

-- ---- the two lists of places, each in its store

pub record Parts (ms ln kinds names values names' values' : List ℕ) (k v : ℕ) : Type 0 where
  pub names-found : Found (places_by 2 ms ln kinds) names names' k
  pub values-found : Found (places_by 4 ms ln kinds) values values' v

-- ---- of a reading itself

module _ (s : List ℕ) (r : Reading) (x : Says s r) (z : read_refusal s ≡ 0) where
  abbrev ms : List ℕ
  ms = table_of r

  abbrev ln : List ℕ
  ln = lean_of r

  abbrev ks : List ℕ
  ks = kinds_of r

  abbrev ps : List ℕ
  ps = take r.formulas r.places

  abbrev S : Tableau
  S = tableau_in s

  formulas-any : 0 < r.formulas
  formulas-any = let a = formulas-some s z in let b = x.many in omega arith

  place_is : (j : ℕ) → j < r.formulas → get_or ps j 0 ≡ get_or r.places j 0
  place_is j h = get_or-take r.formulas r.places j 0 h

  tableau-width : length S.ln ≡ length ln
  tableau-width = ap length (tableau-lean s r x z) ∙ sym x.lean-many ∙ sym (lean-length s r x)

  module _ (many : length ps ≡ r.formulas) where
    last-is : get_or ps (length ps - 1) 0 ≡ get_or r.places (r.formulas - 1) 0
    last-is = ap (λ n. get_or ps (n - 1) 0) many ∙ place_is (r.formulas - 1) (let a = formulas-any in omega arith)

    before-inside : (j : ℕ) → j < length ps - 1 → get_or ps j 0 < length ms
    before-inside j h = subst (λ i. i < length ms) (sym (place_is j (omega arith))) (global-inside s r x z j (omega arith))

    before-in : (globals : List ℕ) → globals ≡ take (length ps - 1) ps → (j : ℕ) → j < length globals → get_or globals j 0 < length ms
    before-in globals e j h =
        let n = length-take-le (length ps - 1) ps (omega arith) in
        let m = ap length e in
        let k : j < length ps - 1 = omega arith in
        subst (λ p. p < length ms) (sym (ap (λ l. get_or l j 0) e ∙ get_or-take (length ps - 1) ps j 0 k)) (before-inside j k)

    last-inside : get_or ps (length ps - 1) 0 < length ms
    last-inside = subst (λ i. i < length ms) (sym last-is) (goal-inside s r x z)

    last-form : form ms (get_or ps (length ps - 1) 0) ≡ positive (goal_of (formulas s))
    last-form = ap (form ms) last-is ∙ goal s r x z

    before-map : (globals : List ℕ) → globals ≡ take (length ps - 1) ps → map (form ms) globals ≡ map positive (globals_of (formulas s))
    before-map globals e =
        let n = length-take-le (length ps - 1) ps (omega arith) in
        let m = ap length e in
        globals-map s r x z globals (omega arith)
        (λ j h. ap (λ l. get_or l j 0) e ∙ get_or-take (length ps - 1) ps j 0 (omega arith) ∙ place_is j (omega arith))

  module _ (narrow : length ln ≤ 12) {names values names' values' : List ℕ} {k v : ℕ} (y : Parts ms ln ks names values names' values' k v) where
    name-count : k ≡ length (name_places S)
    name-count = y.names-found.many ∙ ap length (names-are s r x z)

    value-count : v ≡ length (value_places S)
    value-count = y.values-found.many ∙ ap length (values-are s r x z)

    parts-few : (k ≤ 2) × (v ≤ 12)
    parts-few =
        let a = name-count in
        let b = value-count in
        let c = names-two s in
        let d = values-few s in
        let e = tableau-width in
        (omega arith, omega arith)

    -- where there is a name, there is a lean place
    names-some : 0 < k → 0 < length ln
    names-some h =
        let a = name-count in
        let b = name-lt S (get_d-in 0 (name_places S) 0 (omega arith)) in
        let c = tableau-width in
        omega arith

    namings-is : 2 ^ ((length ln - 1) * k) ≡ namings S
    unfolding namings
    namings-is = ap₂ (λ a b. 2 ^ ((a - 1) * b)) (sym tableau-width) name-count

    -- what holds of the tableau's places holds of those that were found
    names-held : take k names' ≡ name_places S
    names-held = held y.names-found ∙ names-are s r x z

    values-held : take v values' ≡ value_places S
    values-held = held y.values-found ∙ values-are s r x z

    found-named : Named (take k names') (length ln)
    found-named = subst (λ l. Named l (length ln)) (sym names-held) (record {
      few = names-two s;
      within = λ i h. (let b = name-lt S (get_d-in 0 (name_places S) i h) in let e = tableau-width in omega arith);
      narrow = omega arith;
    })

    values_low : (i : ℕ) → i < length (take v values') → get_or (take v values') i 0 ≤ 60
    values_low = subst (λ l. (i : ℕ) → i < length l → get_or l i 0 ≤ 60) (sym values-held) (λ i h. (let e = tableau-width in let b = value-below s (get_or (value_places S) i 0) (get_d-in 0 (value_places S) i h) in omega arith))

    module _ (many : length ps ≡ r.formulas) (small : length ms ≤ 136) {w n : ℕ} (globals' : List ℕ) (wide : w ≡ words_for (length ln)) (eg : take (length ps - 1) globals' ≡ take (length ps - 1) ps) (en : n ≡ 2 ^ ((length ln - 1) * k)) where
      abbrev globals : List ℕ
      globals = take (length ps - 1) globals'

      read-sound : Sound ms ln globals (take v values')
      read-sound = record {
        table = table s r x;
        few = small;
        leans = leans s r x (let a = lean-length s r x in omega arith);
        narrow = omega arith;
        places = placed s r x;
        globals-in = before-in many globals eg;
        values-in = values_low;
      }

      framed-read : r.formulas ≤ 5 → Framed S (positive (goal_of (formulas s))) ms ln globals (take k names') (take v values') (record { words = w; globals = length ps - 1; names = k; values = v; goal = get_or ps (length ps - 1) 0; namings = n })
      framed-read few = record {
        sound = read-sound;
        matches = found-matches s r x z (held y.names-found) (held y.values-found) globals (before-map many globals eg);
        words_are = wide;
        goal-inside = last-inside many;
        goal-is = last-form many;
        namings-are = en ∙ namings-is;
        few-namings = subst (λ m. m ≤ 2 ^ 22) (sym en) (pow_mono (few_bits k (length ln) parts-few.0 narrow));
        few-globals = omega arith;
        few-places = parts-few;
        named = found-named;
      }

-- ---- of lists that are a reading's

module _ {ms ln kinds places s : List ℕ} {r : Reading} (g : Given ms ln kinds places s r) where
  -- what holds of a reading's holds of them
  given_by : (Q : List ℕ → List ℕ → List ℕ → List ℕ → Type 0) → Q (table_of r) (lean_of r) (kinds_of r) (take r.formulas r.places) → Q ms ln kinds places
  given_by Q h =
      subst (λ l. Q l ln kinds places) (sym g.table_is)
      (subst (λ l. Q (table_of r) l kinds places) (sym g.lean-is)
      (subst (λ l. Q (table_of r) (lean_of r) l places) (sym g.kinds-are)
      (subst (λ l. Q (table_of r) (lean_of r) (kinds_of r) l) (sym g.places-are) h)))

  given-many : length (take r.formulas r.places) ≡ r.formulas
  given-many = ap length (sym g.places-are) ∙ g.many

  given-count : length ms ≡ r.count
  given-count = ap length g.table_is ∙ table-length s r g.says

  given-width : length ln ≡ r.width
  given-width = ap length g.lean-is ∙ lean-length s r g.says

  given-any : 0 < length places
  given-any = let a = formulas-any s r g.says g.read in let b = g.many in omega arith

  given-before : (j : ℕ) → j < length places - 1 → get_or places j 0 < length ms
  given-before = given_by (λ m l k p. (j : ℕ) → j < length p - 1 → get_or p j 0 < length m) (before-inside s r g.says g.read given-many)

  given-few : length ln ≤ 12 → {names values names' values' : List ℕ} {k v : ℕ} → Parts ms ln kinds names values names' values' k v → (k ≤ 2) × (0 < k → 0 < length ln)
  given-few h {names} {values} {names'} {values'} {k} {v} =
      given_by (λ a b c p. length b ≤ 12 → Parts a b c names values names' values' k v → (k ≤ 2) × (0 < k → 0 < length b)) (λ n y. ((parts-few s r g.says g.read n y).0, names-some s r g.says g.read n y)) h

  given-sought : (store : List ℕ) → length ln ≤ 12 → 12 ≤ length store → Sought ms ln store
  given-sought store h i = let a = given-width in given_by (λ m l k p. Sought m l store) (sought s r g.says store (omega arith) (omega arith))

  pub given-framed : length ln ≤ 12 → length ms ≤ 136 → r.formulas ≤ 5 → {w n : ℕ} (globals' : List ℕ) {names values names' values' : List ℕ} {k v : ℕ} → w ≡ words_for (length ln)
      → take (length places - 1) globals' ≡ take (length places - 1) places → Parts ms ln kinds names values names' values' k v → n ≡ 2 ^ ((length ln - 1) * k)
      → Framed (tableau_in s) (positive (goal_of (formulas s))) ms ln (take (length places - 1) globals') (take k names') (take v values') (record { words = w; globals = length places - 1; names = k; values = v; goal = get_or places (length places - 1) 0; namings = n })
  given-framed h i few {w} {n} globals' {names} {values} {names'} {values'} {k} {v} wide eg y en =
      given_by (λ a e c p. length e ≤ 12 → length a ≤ 136 → w ≡ words_for (length e) → take (length p - 1) globals' ≡ take (length p - 1) p → Parts a e c names values names' values' k v → n ≡ 2 ^ ((length e - 1) * k)
      → Framed (tableau_in s) (positive (goal_of (formulas s))) a e (take (length p - 1) globals') (take k names') (take v values') (record { words = w; globals = length p - 1; names = k; values = v; goal = get_or p (length p - 1) 0; namings = n }))
      (λ a b c e f n. framed-read s r g.says g.read a f given-many b globals' c e n few) h i wide eg y en

-- ---- call by call

module _ {ms ln kinds places globals names values : List ℕ} (x : Frames ms ln kinds places globals names values) where
  pub frame-narrow : length ln ≤ 12
  frame-narrow = let a = given-width x.given in let b = x.narrow in omega arith

  frame_small : length ms ≤ 136
  frame_small = let a = given-count x.given in let b = x.small in omega arith

  pub frame-any : 1 ≤ length places
  frame-any = let a = given-any x.given in omega arith

  pub frame-few : length places ≤ 5
  frame-few = let a = x.given.many in let b = x.few in omega arith

  pub copy-asks : ((length places - 1 ≤ length places) × (length places - 1 ≤ length globals)) × ((j : ℕ) → j < length places - 1 → get_or places j 0 < 256)
  copy-asks =
      let f = frame-few in
      let a = frame_small in
      let b = x.globals-room in
      ((omega arith, omega arith), λ j h. (let c = given-before x.given j h in omega arith))

  pub names-sought : Sought ms ln names
  names-sought = given-sought x.given names frame-narrow x.names-room

  pub values-sought : Sought ms ln values
  values-sought = given-sought x.given values frame-narrow x.values-room

  module _ {names' values' : List ℕ} {k v : ℕ} (a : Found (places_by 2 ms ln kinds) names names' k) (b : Found (places_by 4 ms ln kinds) values values' v) where
    parts : Parts ms ln kinds names values names' values' k v
    parts = record { names-found = a; values-found = b }

    pub count-asks : (k ≤ 2) × ((length ln ≤ 12) × (0 < k → 0 < length ln))
    count-asks = let f = given-few x.given frame-narrow parts in (f.0, (frame-narrow, f.1))

    pub frame_is : {w n : ℕ} (globals' : List ℕ) → w ≡ words_for (length ln) → take (length places - 1) globals' ≡ take (length places - 1) places → n ≡ 2 ^ ((length ln - 1) * k)
        → FramedAs ms ln kinds places globals' names' values' (record { words = w; globals = length places - 1; names = k; values = v; goal = get_or places (length places - 1) 0; namings = n })
    frame_is globals' wide eg en = λ s r g. given-framed g frame-narrow frame_small (let a = frame-few in let b = g.many in omega arith) globals' wide eg parts en
