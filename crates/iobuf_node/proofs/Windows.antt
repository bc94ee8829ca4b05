-- What a loan of the data, or of the room after it, leaves.
use Rattle.std.proofs.Common.{◌≡◌, ℕ, ◌+◌, ◌≤◌, List, ◌++◌, length, take, drop, refl, sym, ap, ◌∙◌, arith, append_assoc, length-append}
use Rattle.std.proofs.Math.Seq.{take-append_seam, drop-append_seam}
use Rattle.std.proofs.lemmas.List.{drop-drop}
use Rattle.raw_block.specs.Spans.{with_span}
use Rattle.buffer_model.specs.Segment.{block_of, rewritten}
use Rattle.buffer_model.proofs.Windows.{writes, recut, block_length, block_of-cut, with_span-fits}
use Rattle.iobuf_node.specs.declared.mine.Mine.{Mine}
use Rattle.iobuf_node.specs.Mine.{seen, with_window, with_tail, tail_written}

pub writes_window : {O : Type 0} (m : Mine O) (bytes : List ℕ) → length bytes ≡ length (seen m).window → seen (with_window m bytes) ≡ rewritten bytes (seen m)
writes_window m bytes same = writes m.hold.bytes m.start m.len m.hold.share (seen m) refl bytes same

pub writes_tail : {O : Type 0} (m : Mine O) (w : List ℕ) → length w ≤ length (seen m).after → seen (with_tail m w) ≡ tail_written w (seen m)
writes_tail m w fits =
    let b = m.hold.bytes in
    let v = seen m in
    let p = length v.before + length v.window in
    let block_is : block_of v ≡ b = block_of-cut b m.start m.len m.hold.share in
    let whole = block_length v in
    let size : length (block_of v) ≡ length b = ap length block_is in
    let there : p + length w ≤ length b = omega (arith, whole, size, fits) in
    let ends : (v.before ++ v.window) ++ v.after ≡ b = append_assoc v.before v.window v.after ∙ block_is in
    let at : length (v.before ++ v.window) ≡ p = length-append v.before v.window in
    let front : take p b ≡ v.before ++ v.window =
    ap (λ (n : ℕ). take n b) (sym at) ∙ ap (λ x. take (length (v.before ++ v.window)) x) (sym ends) ∙ take-append_seam (v.before ++ v.window) v.after in
    let past : drop p b ≡ v.after =
    ap (λ (n : ℕ). drop n b) (sym at) ∙ ap (λ x. drop (length (v.before ++ v.window)) x) (sym ends) ∙ drop-append_seam (v.before ++ v.window) v.after in
    let rest : drop (p + length w) b ≡ drop (length w) v.after = sym (drop-drop (length w) p b) ∙ ap (λ x. drop (length w) x) past in
    let block : with_span b p w ≡ v.before ++ (v.window ++ (w ++ drop (length w) v.after)) =
    with_span-fits b p w there ∙ ap (λ x. x ++ (w ++ drop (p + length w) b)) front ∙ ap (λ x. (v.before ++ v.window) ++ (w ++ x)) rest ∙ append_assoc v.before v.window (w ++ drop (length w) v.after) in
    recut (with_span b p w) (length v.before) (length v.window) (tail_written w v) (sym block) refl refl
