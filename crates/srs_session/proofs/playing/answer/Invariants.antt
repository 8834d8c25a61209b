-- A ledger of its own.
use Rattle.srs_session.proofs.playing.answer.Given as goal

abbrev pub ghosts-reply_at : goal.ghosts-reply_at
ghosts-reply_at g a = record { name = a.blank.name; parts = a.blank.parts }
