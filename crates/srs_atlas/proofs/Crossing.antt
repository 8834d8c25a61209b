-- Books may cross threads.
use Rattle.std.proofs.Crossing.{crosses}
use Rattle.std.proofs.MapsCrossing.{crosses as maps}
use denote.Param.Send.{IsSend, IsSync, sendable}
use Rattle.srs_path.specs.contracts.events.Event as event
use Rattle.srs_tree.proofs.Crossing.{cell_send, cell_sync, path_send, path_sync, outcome_send, outcome_sync, growing_send, growing_sync}
use Rattle.srs_front.proofs.Crossing.{front_send, front_sync}
use Rattle.srs_tree.specs.contracts.waiting.Pending as waiting
use Rattle.srs_atlas.specs.contracts.frontier.Frontier as frontier
use Rattle.srs_atlas.specs.contracts.book.Book as book
use Rattle.srs_atlas.specs.contracts.atlas.Atlas as atlas
use Rattle.srs_atlas.specs.contracts.book.BookTold.TheImpl as told
use Rattle.srs_atlas.specs.contracts.book.Terms as terms
use Rattle.srs_turn.specs.contracts.turn.Pass as pass
use Rattle.atomic_table.proofs.shared.Seat.TheSendSync as seat
use Rattle.atomic_table.proofs.shared.Shared.TheSendSync as shared
use Rattle.atomic_table.proofs.send_lease.SendLease.TheSendSync as lease

pub event_send : IsSend event.the_row
event_send = search (sendable, crosses, path_send, path_sync, outcome_send, outcome_sync) depth 20

pub event_sync : IsSync event.the_row
event_sync = search (sendable, crosses, path_send, path_sync, outcome_send, outcome_sync) depth 20

pub waiting_send : IsSend waiting.the_row
waiting_send = search (sendable, crosses, path_send, cell_send, cell_sync) depth 20

pub waiting_sync : IsSync waiting.the_row
waiting_sync = search (sendable, crosses, path_sync, cell_send, cell_sync) depth 20

pub frontier_send : IsSend frontier.the_row
frontier_send = search (sendable, crosses, maps, waiting_send, waiting_sync, front_send) depth 30

pub frontier_sync : IsSync frontier.the_row
frontier_sync = search (sendable, crosses, maps, waiting_send, waiting_sync, front_sync) depth 30

pub book_send : IsSend book.the_row
book_send = search (sendable, crosses, event_send, event_sync, growing_send, growing_sync, frontier_send) depth 20

pub book_sync : IsSync book.the_row
book_sync = search (sendable, crosses, event_send, event_sync, growing_send, growing_sync, frontier_sync) depth 20

-- the parts of a table of a book
pub ruleset tables = (shared.the_send, shared.the_sync, lease.the_send, lease.the_sync)

pub atlas_send : IsSend atlas.the_row
atlas_send = search (sendable, crosses, tables, book_send, book_sync) depth 30

pub atlas_sync : IsSync atlas.the_row
atlas_sync = search (sendable, crosses, tables, book_send, book_sync) depth 30

pub pass_send : IsSend (pass.the_row book.the_row event.the_row terms.the_row told.ghosts)
pass_send = search (sendable, crosses, seat.the_send, book_send, book_sync) depth 20
