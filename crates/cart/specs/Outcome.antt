-- What an answer means to a caller in C: the outcome of `paper`.
--     compiles a output work    number, place, states and size of the answer a, and the bytes of the two slices after the call
--     outcome a             number, place, state and orders of the answer a
--     lived a live          number, place and orders of the answer a, and the live state's bytes after the call
-- Assumes nothing.
use Rattle.std.specs.Prelude.{ℕ, List}
use Rattle.paper.specs.Calls.{Compiled, Stepped, Lived}
use Rattle.cart.specs.declared.CompileAnswer.{CompileAnswer}
use Rattle.cart.specs.declared.TableAnswer.{TableAnswer}
use Rattle.cart.specs.declared.LiveAnswer.{LiveAnswer}

abbrev pub compiles : CompileAnswer → List ℕ → List ℕ → Compiled
compiles a output work =
    record { number = a.number; place = a.place; states = a.states; size = a.size; output = output; work = work }

abbrev pub outcome : TableAnswer → Stepped
outcome a = record { number = a.number; place = a.place; state = a.state; orders = a.orders }

abbrev pub lived : LiveAnswer → List ℕ → Lived
lived a live = record { number = a.number; place = a.place; orders = a.orders; live = live }
