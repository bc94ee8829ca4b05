use Rattle.std.proofs.Common.{refl, arith, ap, ◌∙◌, ◌++◌, ◌-◌, length, take, drop, replicate}
use Rattle.frame_delim.specs.Tails.{last_bytes}
use Rattle.frame_delim.proofs.Keeps.{kept_room}
use Rattle.frame_delim.proofs.tail.Tail.keep_last.Goals as goal

pub returns : goal.returns
returns c =
    kept_room c.self.inside.room c.args.bytes.now (replicate 63 0) c.write_at.new.room c.write_at-2.new.room
    (take (c.self.inside.len - (c.self.inside.len - c.min-kept.result)) (drop (c.self.inside.len - c.min-kept.result) c.self.inside.room))
    (take (length c.args.bytes.now - (length c.args.bytes.now - c.min-fresh.result)) (drop (length c.args.bytes.now - c.min-fresh.result) c.args.bytes.now))
    c.self.inside.len c.args.most c.min-fresh.result c.min-kept.result (omega arith)
    c.min-fresh.ensures c.min-kept.ensures refl refl c.write_at.ensures c.write_at-2.ensures
    ∙ ap (λ w. last_bytes c.args.most (w ++ c.args.bytes.now)) c.self.view_is
