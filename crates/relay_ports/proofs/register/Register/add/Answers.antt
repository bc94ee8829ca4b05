use Rattle.std.proofs.Common.{◌≡◌, ◌+◌, Some, None, ◌∷◌, ap, sym, ◌∙◌}
use Rattle.std.specs.Prelude.{position, remove}
use Rattle.std.specs.Map.{remove_entry}
use Rattle.std.specs.Str.{bytes_eq}
use Rattle.relay_ports.specs.Entries.{Entries, with_waiting}
use Rattle.relay_ports.proofs.Places.{entry_replaced_at, entry_removed_nowhere}
use Rattle.relay_ports.proofs.register.Register.add.Goals as goal

pub returns-in-Some-clause-ok : goal.returns-in-Some-clause-ok
returns-in-Some-clause-ok g c =
    let place : position (λ e. bytes_eq c.args.name.now e.0) c.self.inside.waiting.items ≡ Some c.in-Some.at =
    ap (λ es. position (λ e. bytes_eq c.args.name.now e.0) es) (sym c.deref.ensures.value) ∙ sym c.place_of_entry-replaced.ensures ∙ c.in-Some.is in
    let waiting = c.remove-replaced.ensures.items ∙ ap (λ es. remove es (c.in-Some.at + 1)) c.in_ok-insert.ensures.items
    ∙ entry_replaced_at (bytes_eq c.args.name.now) c.self.inside.waiting.items (c.in_ok-noted.noted, c.args.item) c.in-Some.at place
    ∙ ap (λ n. (n, c.args.item) ∷ remove_entry (bytes_eq c.args.name.now) c.self.inside.waiting.items) c.in_ok-noted.ensures in
    (λ i. record { waiting = waiting i; openings = c.self.inside.openings })
    ∙ ap (λ (e : Entries g.row.T.Denot g.row.K.Denot). with_waiting c.args.name.now c.args.item e) c.self.view_is

pub returns-in-None-clause-ok : goal.returns-in-None-clause-ok
returns-in-None-clause-ok g c =
    let nowhere : position (λ e. bytes_eq c.args.name.now e.0) c.self.inside.waiting.items ≡ None =
    ap (λ es. position (λ e. bytes_eq c.args.name.now e.0) es) (sym c.deref.ensures.value) ∙ sym c.place_of_entry-replaced.ensures ∙ c.in-None.is in
    let waiting = c.in_ok-insert.ensures.items ∙ ap (λ n. (n, c.args.item) ∷ c.self.inside.waiting.items) c.in_ok-noted.ensures
    ∙ ap (λ es. (c.args.name.now, c.args.item) ∷ es) (sym (entry_removed_nowhere (bytes_eq c.args.name.now) c.self.inside.waiting.items nowhere)) in
    (λ i. record { waiting = waiting i; openings = c.self.inside.openings })
    ∙ ap (λ (e : Entries g.row.T.Denot g.row.K.Denot). with_waiting c.args.name.now c.args.item e) c.self.view_is
