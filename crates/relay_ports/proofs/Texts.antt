-- The text under a name, where the outputs that were finished are entries.
use Rattle.std.proofs.Common.{◌≡◌, ℕ, Bool, true, false, List, [], ◌∷◌, Option, Some, refl, ap, ◌∙◌, cond}
use Rattle.std.specs.Prelude.{map, find, reverse, option_map}
use Rattle.std.specs.Map.{lookup}
use Rattle.std.specs.Str.{bytes_eq}
use Rattle.relay_ports.specs.States.{OutputEnd, text_of, written_by}
use Rattle.relay_ports.specs.Hosting.{Finished, output_end}
use Rattle.relay_ports.proofs.Reversed.{map-reverse}

found_step : (e : List ℕ × Finished) (w : Option Finished) (v : Option OutputEnd) (b : Bool) → option_map (λ f. f.sink.written) w ≡ written_by v
    → option_map (λ f. f.sink.written) (cond b (Some e.1) w) ≡ written_by (cond b (Some (output_end e)) v)
found_step e w v true is = refl
found_step e w v false is = is

written_first : (name : List ℕ) (es : List (List ℕ × Finished)) → option_map (λ f. f.sink.written) (lookup (bytes_eq name) es) ≡ written_by (find (λ o. bytes_eq name o.name) (map output_end es))
written_first name [] = refl
written_first name (e ∷ es) = found_step e (lookup (bytes_eq name) es) (find (λ o. bytes_eq name o.name) (map output_end es)) (bytes_eq name e.0) (written_first name es)

-- the text under a name is what the entry that was finished last under it took
pub text-of_entries : (name : List ℕ) (es : List (List ℕ × Finished)) → option_map (λ f. f.sink.written) (lookup (bytes_eq name) (reverse es)) ≡ text_of name (map output_end es)
text-of_entries name es = written_first name (reverse es) ∙ ap (λ v. written_by (find (λ o. bytes_eq name o.name) v)) (map-reverse output_end es)
