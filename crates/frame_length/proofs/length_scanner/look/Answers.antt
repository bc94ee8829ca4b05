use Rattle.std.proofs.Common.{◌≡◌, ℕ, ◌-◌, List, ◌++◌, length, take, drop, refl, arith, ap, sym, ◌∙◌, subst, take_all}
use Rattle.frame_head.specs.Numbers.{number_in_order}
use Rattle.frame_length.specs.Fields.{field_end}
use Rattle.frame_length.proofs.Aims.{kept_by, looked_kept, looked_there}
use Rattle.frame_length.proofs.length_scanner.look.Goals as goal

pub returns-then-n-wanted : goal.returns-then-n-wanted
returns-then-n-wanted c = λ r size told.
    let h = c.args.header in
    let s = c.args.bytes.now in
    let n = c.min-n.result in
    let kept = kept_by h r s c.args.seen.now c.keep.new.seen (take (n - c.min-passed.result) (drop c.min-passed.result s)) c.args.have n c.min-passed.result c.saturating_sub.result c.saturating_sub-2.result
    size (omega (arith, c.min-n.ensures)) c.saturating_sub.ensures c.min-passed.ensures c.saturating_sub-2.ensures told refl c.keep.ensures in
    let all : take n s ≡ s = take_all n s (omega (arith, c.min-n.ensures, c.if-n-wanted.true)) in
    let P : List ℕ → Type 0 = λ w. take (length (r ++ w) - h.offset) c.keep.new.seen ≡ drop h.offset (r ++ w) in
    (omega (arith, c.min-n.ensures, c.if-n-wanted.true, size), subst P all kept)

pub returns-then-wanted-bytes : goal.returns-then-wanted-bytes
returns-then-wanted-bytes c = λ r size told.
    let h = c.args.header in
    let s = c.args.bytes.now in
    let F : ℕ → List ℕ = λ k. take (field_end h - k - (h.offset - k)) (drop (h.offset - k) s) in
    looked_there h c.args.seen.now r s (F (length r)) c.number_of.result c.aim_by.result (omega (arith, size, c.if-have-start.true)) c.requires.field.0 (omega (arith, size, c.if-wanted-bytes.true)) refl
    (c.number_of.ensures ∙ ap (λ k. number_in_order h.little (F k)) (sym size)) c.aim_by.ensures

pub returns : goal.returns
returns c = λ r size told.
    let h = c.args.header in
    let s = c.args.bytes.now in
    let n = c.min-n.result in
    let kept = kept_by h r s c.args.seen.now c.keep.new.seen (take (n - c.min-passed.result) (drop c.min-passed.result s)) c.args.have n c.min-passed.result c.saturating_sub.result c.saturating_sub-2.result
    size (omega (arith, c.min-n.ensures)) c.saturating_sub.ensures c.min-passed.ensures c.saturating_sub-2.ensures told refl c.keep.ensures in
    let all : n ≡ field_end h - length r = omega (arith, c.min-n.ensures, c.if-n-wanted.false, size) in
    let P : ℕ → Type 0 = λ k. take (length (r ++ take k s) - h.offset) c.keep.new.seen ≡ drop h.offset (r ++ take k s) in
    looked_kept h c.keep.new.seen r s c.number_of-2.result c.aim_by-2.result (omega (arith, size, c.requires.short)) (omega (arith, c.min-n.ensures, c.if-n-wanted.false, size)) (subst P all kept)
    c.number_of-2.ensures c.aim_by-2.ensures
