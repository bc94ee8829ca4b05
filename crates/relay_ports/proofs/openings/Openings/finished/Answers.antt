use Rattle.std.proofs.Common.{ap, sym, ◌∙◌}
use Rattle.std.specs.Prelude.{find, reverse, option_map, option_copied}
use Rattle.std.specs.Option.{is_some}
use Rattle.std.specs.Str.{bytes_eq}
use Rattle.relay_ports.specs.Entries.{Opened, finished_under}
use Rattle.relay_ports.proofs.Places.{lookup-find}
use Rattle.relay_ports.proofs.Reversed.{found_back}
use Rattle.relay_ports.proofs.openings.Openings.finished.Goals as goal

pub returns-in-Some-clause-kept : goal.returns-in-Some-clause-kept
returns-in-Some-clause-kept g c =
    ap (λ o. option_map (λ e. e.1) (option_copied o)) (sym c.in-Some.is)
    ∙ ap (λ o. option_map (λ e. e.1) o) (c.last_entry.ensures ∙ ap (λ es. find (λ e. bytes_eq c.args.name.now e.0) (reverse es)) c.deref.ensures.value)
    ∙ sym (lookup-find (bytes_eq c.args.name.now) (reverse c.self.inside.finished.items))
    ∙ ap (λ (e : Opened g.row.T.Denot). finished_under c.args.name.now e) c.self.view_is

pub returns-in-Some-clause-found : goal.returns-in-Some-clause-found
returns-in-Some-clause-found g c =
    ap is_some (returns-in-Some-clause-kept g c) ∙ found_back (bytes_eq c.args.name.now) c.args.self.now.finished

pub returns-in-None-clause-kept : goal.returns-in-None-clause-kept
returns-in-None-clause-kept g c =
    ap (λ o. option_map (λ e. e.1) (option_copied o)) (sym c.in-None.is)
    ∙ ap (λ o. option_map (λ e. e.1) o) (c.last_entry.ensures ∙ ap (λ es. find (λ e. bytes_eq c.args.name.now e.0) (reverse es)) c.deref.ensures.value)
    ∙ sym (lookup-find (bytes_eq c.args.name.now) (reverse c.self.inside.finished.items))
    ∙ ap (λ (e : Opened g.row.T.Denot). finished_under c.args.name.now e) c.self.view_is

pub returns-in-None-clause-found : goal.returns-in-None-clause-found
returns-in-None-clause-found g c =
    ap is_some (returns-in-None-clause-kept g c) ∙ found_back (bytes_eq c.args.name.now) c.args.self.now.finished
