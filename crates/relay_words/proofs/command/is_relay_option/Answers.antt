use Rattle.relay_words.proofs.command.is_relay_option.Goals as goal

pub returns : goal.returns
returns c =
    let e = c.is_among.ensures in
    rw (c.new.ensures, c.new-2.ensures, c.new-3.ensures, c.new-4.ensures, c.new-5.ensures, c.new-6.ensures, c.new-7.ensures) at e
