-- Document 02, S-8, over a whole file: nothing but records, without gaps, up to its end.
-- Assumes nothing.
use Rattle.std.specs.Prelude.{ℕ, zero, suc, ◌+◌, ◌-◌, ◌≡◌, List, [], ◌++◌, length, take, drop, ltb, eqb, Option, Some, None}
use Rattle.base_lists.specs.Lists.{choose, null}
use Rattle.base_lists.specs.Array.{pad}
use Rattle.base_lists.specs.Lent.{Lent, Seen}
use Rattle.record.specs.Format.{header_length_by}
use Rattle.record.specs.Read.{header_of_by}
use Rattle.record.specs.Refusals.{refusal_code}
use Rattle.record.specs.declared.Refusal.{Refusal}
use Rattle.record_convert.specs.Convert.{conversion_code, converted}
use Rattle.record_convert.specs.declared.Progress.{Progress}

-- the bytes of the first record, by the whole length that it says: all of them where no header fits or the record is cut off
unfoldable pub first_record : ℕ → List ℕ → List ℕ
first_record v b = choose (ltb (length b) (header_length_by v)) b (take (header_of_by v b).size b)

-- the answer, the bytes of the records before it, and the bytes written
pub record Walked : Type 0 where
  pub code : ℕ
  pub taken : ℕ
  pub bytes : List ℕ

-- the same behind k bytes that gave the bytes bs
unfoldable pub behind : ℕ → List ℕ → Walked → Walked
behind k bs x = record { code = x.code; taken = k + x.taken; bytes = bs ++ x.bytes }

abbrev pub stopped : ℕ → Walked
stopped code = record { code = code; taken = 0; bytes = [] }

-- each record in order, to the end or to the first that is refused; each takes a byte or more, so that n, the number of bytes, is never used up before
unfoldable pub converting : ℕ → ℕ → ℕ → List ℕ → ℕ → Walked
converting v w zero b room = stopped 0
converting v w (suc n) b room =
    choose (null b) (stopped 0)
    (choose (eqb (conversion_code v w (first_record v b) room) 0)
    (behind (length (first_record v b)) (converted v w (first_record v b) room)
    (converting v w n (drop (length (first_record v b)) b) (room - length (converted v w (first_record v b) room)))) (stopped (conversion_code v w (first_record v b) room)))

unfoldable pub walked : ℕ → ℕ → List ℕ → ℕ → Walked
walked v w b room = converting v w (length b) b room

-- the code of a refusal, 0 where there is none
abbrev pub progress_code : Option Refusal → ℕ
progress_code None = 0
progress_code (Some r) = refusal_code r

-- what the code hands back, and the output that it leaves
pub record Outcomes : Type 0 where
  pub code : ℕ
  pub taken : ℕ
  pub written : ℕ
  pub output : List ℕ

-- the bytes from place 0 on, and zeroes behind them
unfoldable pub outcomes : Walked → ℕ → Outcomes
outcomes x room = record { code = x.code; taken = x.taken; written = length x.bytes; output = pad 0 room x.bytes }

abbrev pub outcomes_of : Progress → List ℕ → Outcomes
outcomes_of r out = record { code = progress_code r.refused; taken = r.taken; written = r.written; output = out }

-- r and the output are those of the records walked, as a contract says it of the parameters
abbrev pub Walks : (List ℕ → ℕ → Walked) → Progress → Seen → Lent → Type 0
Walks walk r b out = outcomes_of r out.exit.now ≡ outcomes (walk b.entry.now (length out.entry.now)) (length out.entry.now)
