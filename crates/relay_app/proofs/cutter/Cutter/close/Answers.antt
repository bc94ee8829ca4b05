use Rattle.std.proofs.Common.{◌≡◌, ap, ◌∙◌, append-nil, subst, sym, length}
use Rattle.buffered_io.proofs.Prints.{prints_both, prints_same}
use Rattle.relay_app.specs.Cutting.{Cutting, HasUnits, is_end, status_at}
use Rattle.relay_app.specs.Framing.{units_read}
use Rattle.relay_app.specs.Reports.{report_status}
use Rattle.relay_app.specs.Text.{end_line}
use Rattle.relay_app.proofs.Cuts.{closed_early, closed_on, at_err, at_ok}
use Rattle.relay_app.proofs.cutter.Cutter.close.Goals as goal

pub returns-then-is_err : goal.returns-then-is_err
returns-then-is_err g c =
    λ codec w h s.
    let same = at_err c.end.result c.if-is_err.ensures.value c.end.ensures.unprinted in
    rw same (closed_early c.args.stop s)

pub returns : goal.returns
returns g c =
    λ codec w h s.
    let U : Cutting _ → Type 0 = λ x. HasUnits w (units_read codec h (is_end c.args.stop)) x (g.W.Sink.state c.end.new.report) in
    let has = at_ok c.end.result c.if-is_err.ensures.value c.end.ensures.ended codec w h s in
    let read : c.self.inside.read ≡ length h = ap (λ (x : Cutting _). x.read) c.self.view_is ∙ c.end.ensures.read ∙ s.read in
    closed_on codec h c.args.stop (subst U (sym c.self.view_is) has)
    (prints_same (append-nil (end_line c.self.inside.read) ∙ ap end_line read) (prints_both c.print_end.ensures c.flush.ensures.prints)) c.flush.ensures.empty (c.at_stop.ensures ∙ ap (λ x. status_at c.args.stop c.self.inside.fault x) (c.of_report.ensures ∙ ap (λ b. report_status b) c.failed.ensures))
