-- Text Requests (RFC 7143, 11.10 and 11.11): each is whole, and has its one response.
use Rattle.std.specs.Prelude.{◌≡◌, ◌≤◌, ◌==◌, ◌||◌, ◌∷◌}
use Rattle.session_rules.specs.Words.{ℕ, min, not, nat_lt, Bool, true, false, List, [], length, pairs, TextHeader, Numbers, TextResponse}
use Rattle.session_rules.specs.Words.{max_data_segment_length}
use Rattle.login.specs.Targets.{answers_of, is_bad_request}
use Rattle.session_rules.specs.{Codes.no_transfer_tag, Setting.Setting, Turn.Out}

-- the answers to the pairs of a text
abbrev pub text_answer : Setting → List ℕ → List ℕ
text_answer m d = answers_of m.target_name m.kind m.told (pairs d)

-- how long the answer to a text may be: as the initiator takes, and as a data segment has at all
abbrev pub most_text : Setting → ℕ
most_text m = min m.start.lengths.data_segment max_data_segment_length

-- a text that is no list of pairs, or one of more than 64, or one whose answer is too long
abbrev pub is_unanswerable : Setting → List ℕ → Bool
is_unanswerable m d = is_bad_request d || nat_lt (most_text m) (length (text_answer m d))

-- a request that goes on in another (no F, or C), or that asks for more of an answer (a Target Transfer Tag)
abbrev pub is_part : TextHeader → Bool
is_part p = not p.last || p.continues || not (p.transfer_tag == no_transfer_tag)

abbrev pub is_text_refused : Setting → TextHeader → List ℕ → Bool
is_text_refused m p d = is_part p || is_unanswerable m d

abbrev pub text_outs : Numbers → Setting → TextHeader → List ℕ → List Out
text_outs n m p d = record {
  header = TextResponse (record { task_tag = p.task_tag; transfer_tag = no_transfer_tag; numbers = n });
  bytes = text_answer m d;
} ∷ []

-- the answer that was made of a text, if it has one
pub record IsAnswerOf (m : Setting) (d answer : List ℕ) : Type 0 where
  pub answerable : is_unanswerable m d ≡ false
  pub is : answer ≡ text_answer m d
  pub within : length answer ≤ most_text m

abbrev pub IsMadeOf : Bool → Setting → List ℕ → List ℕ → Type 0
IsMadeOf true m d answer = IsAnswerOf m d answer
IsMadeOf false m d answer = is_unanswerable m d ≡ true
