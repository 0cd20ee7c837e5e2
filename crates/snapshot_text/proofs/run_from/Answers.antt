use mathlib.Core.Path.{sym, ap, ◌∙◌}
use Rattle.std.proofs.lemmas.List.{take_rest}
use Rattle.snapshot_text.specs.Lines.{start_state, run}
use Rattle.snapshot_text.proofs.ReadLaws.{runs_on, runs-end}
use Rattle.snapshot_text.proofs.run_from.Goals as goal

pub loop-b-preserved : goal.loop-b-preserved
loop-b-preserved c =
    runs_on _ _ c.requires.0 c.loop-b.invariant c.loop-b-test.true c.put.ensures c.byte_step-st.ensures

pub returns : goal.returns
returns c =
    (ap (run c.args.m start_state c.args.out.now) (sym (take_rest c.args.s.now c.args.at)) ∙ runs-end c.loop-b.invariant c.loop-b-test.false, c.loop-b.invariant.inside)
