use Rattle.std.proofs.Common.{Some, ap, sym, ◌∙◌}
use Rattle.std.specs.Prelude.{map, option_map, option_copied}
use Rattle.std.specs.Option.{is_some}
use Rattle.std.specs.List.{list_any}
use Rattle.std.specs.Map.{keys_of}
use Rattle.std.specs.Str.{bytes_eq}
use Rattle.relay_ports.specs.States.{text_of}
use Rattle.relay_ports.specs.Hosting.{Hosting, output_end}
use Rattle.relay_ports.proofs.Texts.{text-of_entries}
use Rattle.relay_ports.proofs.memory_host.MemHost.written.Goals as goal

pub returns-in-Some : goal.returns-in-Some
returns-in-Some c = record {
  text = ap Some c.bytes.ensures ∙ ap (λ o. option_map (λ f. f.sink.written) (option_copied o)) (sym c.in-Some.is)
      ∙ ap (λ o. option_map (λ f. f.sink.written) o) c.finished.ensures.kept
      ∙ text-of_entries c.args.name.now c.self.inside.outputs.openings.finished
      ∙ ap (λ (h : Hosting). text_of c.args.name.now (map output_end h.outputs.openings.finished)) c.self.view_is;
  found = ap (λ o. is_some o) (sym c.in-Some.is) ∙ c.finished.ensures.found
      ∙ ap (λ (h : Hosting). list_any (bytes_eq c.args.name.now) (keys_of h.outputs.openings.finished)) c.self.view_is;
}

pub returns-in-None : goal.returns-in-None
returns-in-None c = record {
  text = ap (λ o. option_map (λ f. f.sink.written) (option_copied o)) (sym c.in-None.is)
      ∙ ap (λ o. option_map (λ f. f.sink.written) o) c.finished.ensures.kept
      ∙ text-of_entries c.args.name.now c.self.inside.outputs.openings.finished
      ∙ ap (λ (h : Hosting). text_of c.args.name.now (map output_end h.outputs.openings.finished)) c.self.view_is;
  found = ap (λ o. is_some o) (sym c.in-None.is) ∙ c.finished.ensures.found
      ∙ ap (λ (h : Hosting). list_any (bytes_eq c.args.name.now) (keys_of h.outputs.openings.finished)) c.self.view_is;
}
