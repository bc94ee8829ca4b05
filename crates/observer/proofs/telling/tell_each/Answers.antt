use Rattle.std.proofs.Common.{arith}
use Rattle.observer.specs.Notes.{note_of}
use Rattle.observer.proofs.Hearing.{at_err, at_ok, told_none, told_one}
use Rattle.observer.proofs.telling.tell_each.Goals as goal

pub watchers-preserved : goal.watchers-preserved
watchers-preserved g c =
    told_one (λ b. (goal.Watcher-dyn g (b.vtable, b.value)).heard b.value) (note_of c.args.word.now) _ c.watchers.watchers c.watchers.w-index c.w-item.result c.tell_one.new.watcher c.watchers.invariant (omega arith)
    (at_ok c.tell_one.result _ c.if-is_err.ensures.value c.tell_one.ensures.heard)

pub returns-then-is_err-clause-refused : goal.returns-then-is_err-clause-refused
returns-then-is_err-clause-refused g c =
    told_none (λ b. (goal.Watcher-dyn g (b.vtable, b.value)).heard b.value) (note_of c.args.word.now) _ c.watchers.watchers c.watchers.w-index c.w-item.result c.tell_one.new.watcher c.watchers.invariant (omega arith)
    (at_err c.tell_one.result _ c.if-is_err.ensures.value c.tell_one.ensures.refused)
