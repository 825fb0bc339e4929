-- The coding is right: it is what document 01 asks of the live state's bytes, for every file that is accepted. Assumes nothing.
--     coding-right          the written set, its start and its steps, 128 bytes, and both ways back (`paper`, `Calls`: CodingRight)
--     code_same             equal codes exactly for equal states of the set
--     reach-written         every reachable state is in the set
--     code-small            each number is a byte
--     code-unused           "unused bytes zero": behind the word, behind the memory, the bits of no module, the last two bytes
--     code-end              at the end all are zero
use Prim.Native.Nat.{ℕ, ◌<◌}
use mathlib.Core.List.{List, []}
use mathlib.Core.Logic.{◌↔◌}
use mathlib.Core.Path.{◌≡◌, ap}
use lib.ListN.{get_or, replicate}
use Rattle.paper.specs.Lists.{from, below}
use Rattle.paper.specs.Parse.{parse}
use Rattle.paper.specs.File.{accepted}
use Rattle.paper.specs.Term.{gone}
use Rattle.paper.specs.Reaction.{Program, State}
use Rattle.paper.specs.Discovery.{Reach, begin, next}
use Rattle.paper.specs.Refusals.{adaptive, reading}
use Rattle.paper.specs.Calls.{CodingRight}
use Rattle.coding.specs.Units.{word_l}
use Rattle.coding.specs.Layout.{byte_of, bytes_of, marks_of}
use Rattle.coding.specs.Written.{Written}
use Rattle.coding.specs.Code.{code, coding}
use Rattle.coding.proofs.Bytes.{set-none}
use Rattle.coding.proofs.Coded.{code_long, code-bytes, Unused, unused-zero, code_one, decode_code, code_decode}
use Rattle.coding.proofs.Closed.{start_in, step_in}
use Rattle.coding.proofs.Accepted.{accepted-fit}

pub coding-right : CodingRight parse coding
coding-right =
    record {
      Written = Written;
      start_in = λ file p e. start_in p (accepted-fit file p e);
      step_in = λ file p e s l w a o. step_in p (accepted-fit file p e) s l w a;
      code_long = λ file p e s w. code_long p s;
      decode_code = λ file p e s w. decode_code p (accepted-fit file p e) s w;
      code_decode = λ file p e b s. code_decode p b s;
    }

module _ (file : List ℕ) (p : Program) (e : reading parse adaptive file ≡ accepted p) where
  pub code_same : (s t : State) → Written p s → Written p t → (code p s ≡ code p t) ↔ (s ≡ t)
  code_same s t v w = (code_one p (accepted-fit file p e) s t v w, λ q. ap (code p) q)

  pub reach-written : (s : State) → Reach p s → Written p s
  reach-written s begin = start_in p (accepted-fit file p e)
  reach-written s (next {s = t} l a o r) = step_in p (accepted-fit file p e) t l (reach-written t r) a

  pub code-small : (s : State) → Written p s → (i : ℕ) → get_or (code p s) i 0 < 256
  code-small = code-bytes p (accepted-fit file p e)

  pub code-unused : (s : State) → Written p s → Unused p s (code p s)
  code-unused = unused-zero p (accepted-fit file p e)

pub code-end : (p : Program) → code p (record { left = gone; memory = []; stopped = [] }) ≡ replicate 128 0
unfolding code word_l marks_of bytes_of byte_of below from
code-end p = rw (set-none p.modules)
