use Rattle.std.proofs.Common.{◌≡◌, map}
use Rattle.observer.specs.Notes.{note_of}
use Rattle.observer.proofs.Hearing.{heard_before}
use Rattle.observer.proofs.telling.tell_each.Given as goal

abbrev pub invariant-watchers : goal.invariant-watchers
invariant-watchers g l =
    map (λ b. (goal.Watcher-dyn g (b.vtable, b.value)).heard b.value) l.watchers
    ≡ heard_before (note_of l.word) l.w-index (map (λ b. (goal.Watcher-dyn g (b.vtable, b.value)).heard b.value) l.fn.watchers)
