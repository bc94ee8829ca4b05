use Rattle.std.proofs.Common.{ℕ, ◌+◌, ◌-◌, if◌then◌else◌, length, drop, refl, ap, ◌∙◌, arith, inl, inr}
use Rattle.buffer_model.specs.Segment.{bytes_of}
use Rattle.frame_rule.specs.declared.progress.Progress.{Progress}
use Rattle.frame_rule.specs.declared.scanner.Scan.TheVariants.{Open, Hopeless, Frame, Fault}
use Rattle.frame_rule.proofs.Passing.{advances_as, fault_fits, found_in, frame_fits, gives_fault, gives_frame, has_data, joins, loses, open_fed, skips, window_behind, within_chain}
use Rattle.frame_rule.proofs.Moving.{shares_still}
use Rattle.frame_rule.proofs.Tight.{adds_none}
use Rattle.frame_rule.proofs.progress.Progress.pass.Goals as goal

pub leave-requires-clause-there : goal.leave-requires-clause-there
leave-requires-clause-there g c =
    within_chain g.S.Scanner.codec_of g.S.Scanner.saw g.met.S.Scanner.checked c.args.self.now _ c.least-n.result _ c.node.result.now c.node.ensures c.requires.stands
    (omega (arith, c.least-n.ensures, (ap length c.bytes-bytes.ensures)))

pub leave-requires-clause-room : goal.leave-requires-clause-room
leave-requires-clause-room g c =
    let within = window_behind c.args.i c.args.chain.now c.node.result.now c.node.ensures in
    omega (arith, c.least-n.ensures, (ap length c.bytes-bytes.ensures), c.requires.room, within)

pub returns-then-self-gt0-clause-passed : goal.returns-then-self-gt0-clause-passed
returns-then-self-gt0-clause-passed g c =
    let some = has_data c.args.i c.args.chain.now c.node.result.now c.node.ensures c.requires.data in
    skips g.S.Scanner.codec_of g.S.Scanner.saw g.met.S.Scanner.checked c.args.self.now _ _ c.least-n.result _ _ c.node.result.now _ _
    c.node.ensures c.requires.stands c.if-self-gt0.true (omega (arith, c.least-n.ensures, (ap length c.bytes-bytes.ensures), c.if-self-gt0.true, some))
    (omega (arith, c.least-n.ensures)) (omega (arith, c.least-n.ensures, (ap length c.bytes-bytes.ensures)))
    c.in_ok-leave.ensures.rest (ap (λ us. us.items) c.in_ok-leave.ensures.units) (ap (λ (p : Progress g.row.S.Denot). record p { skip = p.skip - c.least-n.result }) c.in_ok-leave.ensures.progress)

pub scan-requires-clause-room : goal.scan-requires-clause-room
scan-requires-clause-room g c =
    let within = window_behind c.args.i c.args.chain.now c.node.result.now c.node.ensures in
    let fed = open_fed g.S.Scanner.codec_of g.S.Scanner.saw g.met.S.Scanner.checked c.args.self.now _ c.requires.stands in
    omega (arith, c.requires.room, within, fed, ap length c.bytes-bytes.ensures)

pub lose-requires-clause-there : goal.lose-requires-clause-there
lose-requires-clause-there g c =
    within_chain g.S.Scanner.codec_of g.S.Scanner.saw g.met.S.Scanner.checked c.args.self.now _ (length c.bytes-bytes.result.now) _ c.node.result.now c.node.ensures c.requires.stands
    (omega (arith, (ap length c.bytes-bytes.ensures)))

pub lose-requires-clause-within : goal.lose-requires-clause-within
lose-requires-clause-within g c = open_fed g.S.Scanner.codec_of g.S.Scanner.saw g.met.S.Scanner.checked c.args.self.now _ c.requires.stands

pub lose-requires-clause-room : goal.lose-requires-clause-room
lose-requires-clause-room g c =
    let within = window_behind c.args.i c.args.chain.now c.node.result.now c.node.ensures in
    omega (arith, (ap length c.bytes-bytes.ensures), c.requires.room, within)

pub returns-then-self-clause-passed : goal.returns-then-self-clause-passed
returns-then-self-clause-passed g c =
    let some = has_data c.args.i c.args.chain.now c.node.result.now c.node.ensures c.requires.data in
    let finds = found_in g.S.Scanner.codec_of g.S.Scanner.saw g.met.S.Scanner.checked c.args.self.now c.scan.new.self c.node.result.now c.bytes-bytes.result.now Open c.bytes-bytes.ensures c.in-Open.ensures.found in
    let size = ap (λ (n : ℕ). drop ((if c.args.self.now.lost then 0 else c.args.self.now.unread) + n) (bytes_of c.args.chain.now)) (ap length c.bytes-bytes.ensures) in
    advances_as g.S.Scanner.codec_of g.S.Scanner.saw g.met.S.Scanner.checked c.args.self.now _ _ c.args.i 0 _ _ _ _ c.in_ok-lose-in-Open.ensures.progress
    (loses g.S.Scanner.codec_of g.S.Scanner.saw g.met.S.Scanner.checked c.args.self.now _ c.args.i _ _ c.node.result.now _ _ Open c.node.ensures c.requires.stands some finds (inr (refl, c.if-self.true))
    c.in-Open.ensures.codec (omega (arith, c.if-self-gt0.false)) (c.in_ok-lose-in-Open.ensures.rest ∙ size) (ap (λ us. us.items) c.in_ok-lose-in-Open.ensures.units)
    (ap (λ (n : ℕ). c.args.self.now.fed + n) (ap length c.bytes-bytes.ensures)) (ap (λ (n : ℕ). c.args.self.now.unread + n) (ap length c.bytes-bytes.ensures)) refl (omega (arith, c.if-self-gt0.false)))

pub returns-else-self-clause-passed : goal.returns-else-self-clause-passed
returns-else-self-clause-passed g c =
    let some = has_data c.args.i c.args.chain.now c.node.result.now c.node.ensures c.requires.data in
    let finds = found_in g.S.Scanner.codec_of g.S.Scanner.saw g.met.S.Scanner.checked c.args.self.now c.scan.new.self c.node.result.now c.bytes-bytes.result.now Open c.bytes-bytes.ensures c.in-Open.ensures.found in
    joins g.S.Scanner.codec_of g.S.Scanner.saw g.met.S.Scanner.checked c.args.self.now _ c.args.i _ c.node.result.now _ c.node.ensures c.requires.there some finds c.in-Open.ensures.codec
    (omega (arith, c.if-self-gt0.false)) c.if-self.false
    (ap (λ (n : ℕ). c.args.self.now.fed + n) (ap length c.bytes-bytes.ensures)) (ap (λ (n : ℕ). c.args.self.now.unread + n) (ap length c.bytes-bytes.ensures)) refl refl

pub returns-else-self-clause-nodes : goal.returns-else-self-clause-nodes
returns-else-self-clause-nodes g c = record { shares = λ heavy. shares_still _ _ _ heavy refl; tight = λ tight. (tight, adds_none _ _ refl) }

pub lose-requires-in-Hopeless-clause-there : goal.lose-requires-in-Hopeless-clause-there
lose-requires-in-Hopeless-clause-there g c =
    within_chain g.S.Scanner.codec_of g.S.Scanner.saw g.met.S.Scanner.checked c.args.self.now _ (length c.bytes-bytes.result.now) _ c.node.result.now c.node.ensures c.requires.stands
    (omega (arith, (ap length c.bytes-bytes.ensures)))

pub lose-requires-in-Hopeless-clause-within : goal.lose-requires-in-Hopeless-clause-within
lose-requires-in-Hopeless-clause-within g c = open_fed g.S.Scanner.codec_of g.S.Scanner.saw g.met.S.Scanner.checked c.args.self.now _ c.requires.stands

pub lose-requires-in-Hopeless-clause-room : goal.lose-requires-in-Hopeless-clause-room
lose-requires-in-Hopeless-clause-room g c =
    let within = window_behind c.args.i c.args.chain.now c.node.result.now c.node.ensures in
    omega (arith, (ap length c.bytes-bytes.ensures), c.requires.room, within)

pub returns-in_ok-lose-in-Hopeless-clause-passed : goal.returns-in_ok-lose-in-Hopeless-clause-passed
returns-in_ok-lose-in-Hopeless-clause-passed g c =
    let some = has_data c.args.i c.args.chain.now c.node.result.now c.node.ensures c.requires.data in
    let finds = found_in g.S.Scanner.codec_of g.S.Scanner.saw g.met.S.Scanner.checked c.args.self.now c.scan.new.self c.node.result.now c.bytes-bytes.result.now Hopeless c.bytes-bytes.ensures c.in-Hopeless.ensures.found in
    let size = ap (λ (n : ℕ). drop ((if c.args.self.now.lost then 0 else c.args.self.now.unread) + n) (bytes_of c.args.chain.now)) (ap length c.bytes-bytes.ensures) in
    advances_as g.S.Scanner.codec_of g.S.Scanner.saw g.met.S.Scanner.checked c.args.self.now _ _ c.args.i 0 _ _ _ _ c.in_ok-lose-in-Hopeless.ensures.progress
    (loses g.S.Scanner.codec_of g.S.Scanner.saw g.met.S.Scanner.checked c.args.self.now _ c.args.i _ _ c.node.result.now _ _ Hopeless c.node.ensures c.requires.stands some finds (inl refl)
    c.in-Hopeless.ensures.codec (omega (arith, c.if-self-gt0.false)) (c.in_ok-lose-in-Hopeless.ensures.rest ∙ size) (ap (λ us. us.items) c.in_ok-lose-in-Hopeless.ensures.units)
    (ap (λ (n : ℕ). c.args.self.now.fed + n) (ap length c.bytes-bytes.ensures)) (ap (λ (n : ℕ). c.args.self.now.unread + n) (ap length c.bytes-bytes.ensures)) refl (omega (arith, c.if-self-gt0.false)))

pub give-requires-clause-within : goal.give-requires-clause-within
give-requires-clause-within g c = open_fed g.S.Scanner.codec_of g.S.Scanner.saw g.met.S.Scanner.checked c.args.self.now _ c.requires.stands

pub give-requires-clause-there : goal.give-requires-clause-there
give-requires-clause-there g c =
    let finds = found_in g.S.Scanner.codec_of g.S.Scanner.saw g.met.S.Scanner.checked c.args.self.now c.scan.new.self c.node.result.now c.bytes-bytes.result.now (Frame c.in-Frame.used c.in-Frame.front c.in-Frame.back) c.bytes-bytes.ensures c.in-Frame.ensures.found in
    (frame_fits g.S.Scanner.codec_of g.S.Scanner.saw g.met.S.Scanner.checked c.args.self.now c.scan.new.self c.args.i c.in-Frame.used c.in-Frame.front c.in-Frame.back _ c.node.result.now c.node.ensures c.requires.stands finds).1

pub give-requires-clause-room : goal.give-requires-clause-room
give-requires-clause-room g c =
    let finds = found_in g.S.Scanner.codec_of g.S.Scanner.saw g.met.S.Scanner.checked c.args.self.now c.scan.new.self c.node.result.now c.bytes-bytes.result.now (Frame c.in-Frame.used c.in-Frame.front c.in-Frame.back) c.bytes-bytes.ensures c.in-Frame.ensures.found in
    let fits = (frame_fits g.S.Scanner.codec_of g.S.Scanner.saw g.met.S.Scanner.checked c.args.self.now c.scan.new.self c.args.i c.in-Frame.used c.in-Frame.front c.in-Frame.back _ c.node.result.now c.node.ensures c.requires.stands finds).0 in
    let within = window_behind c.args.i c.args.chain.now c.node.result.now c.node.ensures in
    omega (arith, fits, within, c.requires.room)

pub returns-in_ok-give-in-Frame-clause-passed : goal.returns-in_ok-give-in-Frame-clause-passed
returns-in_ok-give-in-Frame-clause-passed g c =
    let finds = found_in g.S.Scanner.codec_of g.S.Scanner.saw g.met.S.Scanner.checked c.args.self.now c.scan.new.self c.node.result.now c.bytes-bytes.result.now (Frame c.in-Frame.used c.in-Frame.front c.in-Frame.back) c.bytes-bytes.ensures c.in-Frame.ensures.found in
    advances_as g.S.Scanner.codec_of g.S.Scanner.saw g.met.S.Scanner.checked c.args.self.now _ _ c.args.i 0 _ _ _ _ c.in_ok-give-in-Frame.ensures.progress
    (gives_frame g.S.Scanner.codec_of g.S.Scanner.saw g.met.S.Scanner.checked c.args.self.now _ c.args.i c.in-Frame.used c.in-Frame.front c.in-Frame.back _ _ c.node.result.now _ _ c.node.ensures c.requires.stands finds
    c.in-Frame.ensures.codec (omega (arith, c.if-self-gt0.false)) c.in_ok-give-in-Frame.ensures.rest c.in_ok-give-in-Frame.ensures.unit refl refl refl (omega (arith, c.if-self-gt0.false)))

pub refuse-requires-clause-within : goal.refuse-requires-clause-within
refuse-requires-clause-within g c = open_fed g.S.Scanner.codec_of g.S.Scanner.saw g.met.S.Scanner.checked c.args.self.now _ c.requires.stands

pub refuse-requires-clause-there : goal.refuse-requires-clause-there
refuse-requires-clause-there g c =
    let finds = found_in g.S.Scanner.codec_of g.S.Scanner.saw g.met.S.Scanner.checked c.args.self.now c.scan.new.self c.node.result.now c.bytes-bytes.result.now (Fault c.in-Fault.kind c.in-Fault.used c.in-Fault.over) c.bytes-bytes.ensures c.in-Fault.ensures.found in
    (fault_fits g.S.Scanner.codec_of g.S.Scanner.saw g.met.S.Scanner.checked c.args.self.now c.scan.new.self c.args.i c.in-Fault.used c.in-Fault.over c.in-Fault.kind _ c.node.result.now c.node.ensures c.requires.stands finds).1

pub refuse-requires-clause-room : goal.refuse-requires-clause-room
refuse-requires-clause-room g c =
    let finds = found_in g.S.Scanner.codec_of g.S.Scanner.saw g.met.S.Scanner.checked c.args.self.now c.scan.new.self c.node.result.now c.bytes-bytes.result.now (Fault c.in-Fault.kind c.in-Fault.used c.in-Fault.over) c.bytes-bytes.ensures c.in-Fault.ensures.found in
    let fits = (fault_fits g.S.Scanner.codec_of g.S.Scanner.saw g.met.S.Scanner.checked c.args.self.now c.scan.new.self c.args.i c.in-Fault.used c.in-Fault.over c.in-Fault.kind _ c.node.result.now c.node.ensures c.requires.stands finds).0 in
    let within = window_behind c.args.i c.args.chain.now c.node.result.now c.node.ensures in
    omega (arith, fits, within, c.requires.room)

pub returns-in_ok-refuse-in-Fault-clause-passed : goal.returns-in_ok-refuse-in-Fault-clause-passed
returns-in_ok-refuse-in-Fault-clause-passed g c =
    let finds = found_in g.S.Scanner.codec_of g.S.Scanner.saw g.met.S.Scanner.checked c.args.self.now c.scan.new.self c.node.result.now c.bytes-bytes.result.now (Fault c.in-Fault.kind c.in-Fault.used c.in-Fault.over) c.bytes-bytes.ensures c.in-Fault.ensures.found in
    advances_as g.S.Scanner.codec_of g.S.Scanner.saw g.met.S.Scanner.checked c.args.self.now _ _ c.args.i 0 _ _ _ _ (ap (λ (p : Progress g.row.S.Denot). record p { skip = c.in-Fault.over }) c.in_ok-refuse-in-Fault.ensures.progress)
    (gives_fault g.S.Scanner.codec_of g.S.Scanner.saw g.met.S.Scanner.checked c.args.self.now _ c.args.i c.in-Fault.used c.in-Fault.over c.in-Fault.kind _ _ c.node.result.now _ _ c.node.ensures c.requires.stands finds
    c.in-Fault.ensures.codec (omega (arith, c.if-self-gt0.false)) c.in_ok-refuse-in-Fault.ensures.rest c.in_ok-refuse-in-Fault.ensures.unit refl refl refl refl)
