use Rattle.std.proofs.Common.{◌≡◌, None, ap, sym, ◌∙◌}
use Rattle.std.specs.Prelude.{position}
use Rattle.std.specs.Str.{bytes_eq}
use Rattle.relay_ports.specs.Entries.{Entries, waiting_under}
use Rattle.relay_ports.proofs.Places.{entry_nowhere}
use Rattle.relay_ports.proofs.register.Register.open.Goals as goal

pub returns-in-None-clause-item : goal.returns-in-None-clause-item
returns-in-None-clause-item g c =
    let nowhere : position (λ e. bytes_eq c.args.name.now e.0) c.self.inside.waiting.items ≡ None =
    ap (λ es. position (λ e. bytes_eq c.args.name.now e.0) es) (sym c.deref.ensures.value) ∙ sym c.place_of_entry.ensures ∙ c.in-None.is in
    sym (entry_nowhere (bytes_eq c.args.name.now) c.self.inside.waiting.items nowhere)
    ∙ ap (λ (e : Entries g.row.T.Denot g.row.K.Denot). waiting_under c.args.name.now e) c.self.view_is
