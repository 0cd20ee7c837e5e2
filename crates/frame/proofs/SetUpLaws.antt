-- From a reading to a set-up, call by call. Assumes nothing.
use mathlib.Core.Path.{◌≡◌, refl, sym, ap, ◌∙◌}
use mathlib.Core.List.{List}
use Prim.Native.Nat.{ℕ, ◌≤◌}
use native.Mathlib.Omega.{arith}
use lib.Dec.{eqb}
use lib.ListN.{length, get_or, length-map, take}
use lib.Seq.{length-take-le}
use Rattle.ctl.proofs.ListLaws.{kept-few}
use Rattle.ctl.proofs.LeanOrder.{with-length}
use Rattle.head.specs.Head.{kinds}
use Rattle.head.proofs.Spellings.{sheet-spellings}
use Rattle.sheet.proofs.RefusalLaws.{right-kinds}
use Rattle.sheet.specs.Refusal.{read_refusal}
use Rattle.sheet.specs.Reading.{values_in}
use Rattle.sheet.proofs.SizeLaws.{formulas-many, texts-five}
use Rattle.reader.specs.declared.Reading.{Reading}
use Rattle.reader.specs.Reader.{Says, members}
use Rattle.limits.specs.declared.Limits.{Limits}
use Rattle.std.specs.Prelude.{Ok}
use Rattle.limits.specs.Limits.{refusal_under}
use Rattle.limits.proofs.LimitLaws.{accepted-closure, accepted-lean, accepted-read, accepted-right}
use Rattle.reader.proofs.ReadLaws.{words-within, take_within}
use Rattle.prepare.specs.Prepared.{kinds_of, lean_of, table_of}
use Rattle.frame.specs.Framed.{FramedAs, Frames, Given}
use Rattle.frame.specs.SetUp.{SetUp}
use Rattle.frame.specs.declared.Frame.{Frame}

module _ (l : Limits) {s : List ℕ} {r : Reading} (x : (refusal_under l s ≡ 0) × Says s r) where
  pub right : read_refusal s ≡ 0
  right = accepted-read l s x.0

  pub count-within : r.count ≤ length r.members
  count-within = x.1.tabled.room

  width_is : length (lean_of r) ≡ r.width
  width_is = sym (length-map (lean_of r) _) ∙ ap length x.1.lean-are ∙ sym x.1.lean-many

  pub width-within : r.width ≤ length r.lean
  width-within = take_within r.width r.lean width_is

  pub symbols-within : length r.words ≡ 8 → length r.kinds ≡ 8 → r.symbols ≤ length r.kinds
  symbols-within a b = let h = words-within x.1 in omega arith

  pub formulas-five : r.formulas ≤ 5
  formulas-five = let a = texts-five s right in let b = formulas-many s right in let c = x.1.many in omega arith

  pub formulas-within : length r.places ≡ 5 → r.formulas ≤ length r.places
  formulas-within a = let b = formulas-five in omega arith

  lean-few : r.width ≤ 12
  lean-few = let a = x.1.lean-many in let b = accepted-lean l s x.0 in let c = (accepted-right l s x.0).lean-most in omega arith

  given : length r.places ≡ 5 → Given (table_of r) (lean_of r) (kinds_of r) (take r.formulas r.places) s r
  given a = record { says = x.1; read = right; table_is = refl; lean-is = refl; kinds-are = refl; places-are = refl; many = length-take-le r.formulas r.places (formulas-within a) }

  -- the closure's members and the values that do not occur
  table-few : r.count ≤ 136
  table-few =
      let a = accepted-closure l s x.0 in
      let g = (accepted-right l s x.0).closure-most in
      let b = x.1.tabled.count in
      let c = with-length (members s) (values_in s) in
      let d = kept-few (λ k. eqb (get_or (kinds s) k 0) 4) (length (kinds s)) in
      let e = right-kinds s right in
      let f = (sheet-spellings s).few in
      omega arith

  pub frame-asked : {globals names values : List ℕ} → length r.places ≡ 5 → length globals ≡ 8 → length names ≡ 12 → length values ≡ 12
      → Frames (table_of r) (lean_of r) (kinds_of r) (take r.formulas r.places) globals names values
  frame-asked a b c d = record {
    sheet = s;
    reading = r;
    given = given a;
    few = formulas-five;
    narrow = lean-few;
    small = table-few;
    globals-room = omega arith;
    names-room = omega arith;
    values-room = omega arith;
  }

  pub setup-accepted : {globals' names' values' : List ℕ} {f : Frame} → length r.places ≡ 5
      → FramedAs (table_of r) (lean_of r) (kinds_of r) (take r.formulas r.places) globals' names' values' f → length globals' ≡ 8 → length names' ≡ 12 → length values' ≡ 12
      → SetUp l s (Ok (record {
        count = r.count;
        members = r.members;
        width = r.width;
        lean = r.lean;
        globals = f.globals;
        everywhere = globals';
        names = f.names;
        named = names';
        values = f.values;
        valued = values';
        words = f.words;
        goal = f.goal;
        namings = f.namings;
      }))
  setup-accepted {globals'} {names'} {values'} {f} a y b c d = (
    x.0,
    (let z = y s r (given a) in
        let m = z.few-globals in
        let n = z.few-places in
        record {
          framed = z;
          members-within = count-within;
          lean-within = width-within;
          globals-within = omega arith;
          names-within = omega arith;
          values-within = omega arith;
        }),
  )
