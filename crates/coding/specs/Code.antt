-- The coding of the live state. Document 01: "The live state is 128 bytes with a one-to-one coding that the team writes down, unused bytes zero".
--     code p s              the 128 bytes of the state s of the program p
--     said p b              the state that the bytes b say, whatever they are
--     codes p s b           s is in the written set, and b are its bytes
--     decode p b            the state that b say, where they are its bytes
--     coding                the two as one (`paper`, `Calls`: Coding)
-- Not here: that it is right (the proofs' `Coded`). Assumes nothing.
use Rattle.std.specs.Prelude.{ℕ, Bool, cond, ◌&&◌, List, get_or}
use Rattle.std.proofs.Math.Option.{Option, none, some}
use Rattle.paper.specs.Lists.{eq_l}
use Rattle.paper.specs.Reaction.{Program, State}
use Rattle.paper.specs.Calls.{Coding}
use Rattle.words.specs.Word.{terms}
use Rattle.rewrite.specs.Steps.{left_of}
use Rattle.coding.specs.Units.{word_l}
use Rattle.coding.specs.Layout.{bytes_of, word_in, marks_in, set_number, set_of, marks_of, events_of}
use Rattle.coding.specs.Written.{nodes_of, in_set}

unfoldable pub code : Program → State → List ℕ
code p s =
    bytes_of (word_l (nodes_of p) s.left) (set_number p.modules s.stopped) (marks_of p.events s.memory)

unfoldable pub said : Program → List ℕ → State
said p b = record {
  left = left_of (terms (nodes_of p) (word_in b));
  memory = events_of p.events (marks_in b);
  stopped = set_of p.modules (get_or b 121 0);
}

unfoldable pub codes : Program → State → List ℕ → Bool
codes p s b = in_set p s && eq_l (code p s) b

unfoldable pub decode : Program → List ℕ → Option State
decode p b = let s = said p b in cond (codes p s b) (some s) none

abbrev pub coding : Coding
coding = record { code = code; decode = decode }
