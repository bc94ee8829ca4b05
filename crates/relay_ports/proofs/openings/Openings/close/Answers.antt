use Rattle.std.proofs.Common.{◌≡◌, Some, None, [], ◌∷◌, ◌++◌, ap, sym, ◌∙◌}
use Rattle.std.specs.Prelude.{position}
use Rattle.std.specs.Str.{bytes_eq}
use Rattle.relay_ports.specs.Entries.{Opened, after_closing}
use Rattle.relay_ports.proofs.Places.{removed_at, name_at, name_found}
use Rattle.relay_ports.proofs.openings.Openings.close.Goals as goal

pub unreachable-requires : goal.unreachable-requires
unreachable-requires g c =
    let names = ap (λ (e : Opened g.row.T.Denot). e.open_names) c.self.view_is in
    let nowhere : position (bytes_eq c.args.name.now) c.args.self.now.open_names ≡ None =
    ap (λ xs. position (bytes_eq c.args.name.now) xs) (sym (c.deref.ensures.value ∙ names)) ∙ sym c.place_of_name.ensures ∙ c.in-None.is in
    name_found c.args.self.now.open_names c.args.name.now c.requires nowhere

pub returns : goal.returns
returns g c =
    let place : position (bytes_eq c.args.name.now) c.self.inside.opened.items ≡ Some c.in-Some.at =
    ap (λ xs. position (bytes_eq c.args.name.now) xs) (sym c.deref.ensures.value) ∙ sym c.place_of_name.ensures ∙ c.in-Some.is in
    let closed = c.remove-noted.ensures.items ∙ removed_at (bytes_eq c.args.name.now) c.self.inside.opened.items c.in-Some.at place in
    let name = name_at c.self.inside.opened.items c.args.name.now c.remove-noted.result c.in-Some.at place c.remove-noted.ensures.value in
    let kept = c.push_reserved.ensures.items ∙ ap (λ n. c.self.inside.finished.items ++ (n, c.args.kept) ∷ []) name in
    (λ i. record { open_names = closed i; finished = kept i })
    ∙ ap (λ (e : Opened g.row.T.Denot). after_closing c.args.name.now c.args.kept e) c.self.view_is
