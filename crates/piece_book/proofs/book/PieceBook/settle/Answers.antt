use Rattle.std.proofs.Common.{ap, ◌∙◌, ◌++◌}
use Rattle.relay_ports.specs.States.{HostState}
use Rattle.storage.specs.Back.{stakes_in}
use Rattle.piece_book.proofs.Homes.{next_owed, then_owed, none_owed}
use Rattle.piece_book.proofs.book.PieceBook.settle.Goals as goal

pub take_in-requires : goal.take_in-requires
take_in-requires g c =
    let mint = c.requires.0 in
    let way = c.requires.1 in
    let rest = c.requires.2 in
    let next = next_owed mint way rest _ _ _ _ c.in-Some.back c.in-Some.ensures (c.backs.invariant.owed mint way rest c.requires.3) in
    (mint, way, stakes_in c.pop.new.self ++ rest, next)

pub backs-preserved : goal.backs-preserved
backs-preserved g c = record {
  owed = λ mint way rest o.
      let all = c.backs.invariant.owed mint way rest o in
      let next = next_owed mint way rest _ _ _ _ c.in-Some.back c.in-Some.ensures all in
      then_owed mint way rest _ _ _ _ _ _ c.in-Some.back c.in-Some.ensures all
      (c.take_in.ensures.owes mint way (stakes_in c.pop.new.self ++ rest) next) c.take_in.ensures.knows;
  host = c.take_in.ensures.host ∙ ap (λ (h : HostState). record h { lent = (g.H.Host.state c.take_in.new.host).lent }) c.backs.invariant.host;
  knows = λ n. c.take_in.ensures.knows n ∙ c.backs.invariant.knows n;
}

pub returns-clause-owes : goal.returns-clause-owes
returns-clause-owes g c = λ mint way rest o. none_owed mint way rest _ _ _ c.in_default.ensures.0 (c.backs.invariant.owed mint way rest o)
