-- `accepted_with` meets its contract: what writing the pages asks follows from the set-up. Assumes nothing.
use native.Mathlib.Omega.{arith}
use Rattle.fitted.proofs.AcceptedLaws.{few-of, goal-of, placed-of}
use Rattle.report.proofs.ReportLaws.{prints-of}
use Rattle.report.proofs.accepted_with.Goals as goal

pub write_pages-requires : goal.write_pages-requires
write_pages-requires g c =
    let q = c.requires.accepts in
    let f = c.sheet_in-tables.ensures in
    record { done_value = c.requires.done_value; prints = prints-of q.0 f c.args.job.now.newline.now q.1.0; ready = f.prepared; places = (placed-of q.0 f, (few-of q.0 f, goal-of q.0 f)); in_bounds = (omega arith, q.1.1) }
