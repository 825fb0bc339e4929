-- `printing::has_room` meets its contract: its tests are those of `fits`. Assumes nothing.
use Rattle.printing.proofs.Shown.{fits-held, fits-short, fits-half}
use Rattle.printing.proofs.has_room.Goals as goal

pub returns-then-held-size : goal.returns-then-held-size
returns-then-held-size c = fits-held c.args.size c.args.held c.args.room c.if-held-size.true

pub returns-then-room-lt60 : goal.returns-then-room-lt60
returns-then-room-lt60 c = fits-short c.args.size c.args.held c.args.room c.if-room-lt60.true

pub returns : goal.returns
returns c = fits-half c.args.size c.args.held c.args.room c.if-held-size.false c.if-room-lt60.false
