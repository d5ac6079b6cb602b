use Rattle.std.proofs.Common.{refl}
use Rattle.layout.specs.Labels.{true_label}
use Rattle.model.proofs.WorkedAnswers.{answer_examples, making_answers}
use Rattle.model.proofs.WorkedCalls.{known_examples, making_examples, walk_examples, write_examples}
use Rattle.model.proofs.worked_examples.Goals as goal

pub returns : goal.returns
unfolding true_label
returns c = record {
  counts = record { none = refl; stale_copy = refl; stale_gone = refl; tells_other = refl; no_copy = refl; fresh = refl; misplaced = refl };
  homes = record { before = refl; target = refl; backup = refl; source = refl; after = refl };
  disks = record { written = refl; elsewhere = refl; begun = refl; held = refl; spent = refl; other_grant = refl; reopened = refl; two = refl; old_shown = refl; new_shown = refl };
  opens = record { none = refl; labels = refl; idle = refl; rows = refl; logged = refl; lost = refl; borne = refl; numbers = refl; unarmed = refl };
  verdicts = record { off = refl; few = refl; shut = refl; phase = refl; grant = refl; length = refl; past = refl; read = refl; row_in_hand = refl; second = refl; limits = refl; kept = refl; full = refl; settled = refl; need = refl; copy = refl; left = refl; numbers = refl; finish = refl; distance = refl; begin = refl };
  begins = record { four = refl; three = refl };
  reads = record { content = refl; slot = refl; parity = refl; no_group = refl; due = refl; parity_due = refl; nobody = refl; padded = refl };
  steps = record { log = refl; logged_parity = refl; log_only = refl; written = refl; both_copies = refl; other_place = refl; to_slot = refl; group_datum = refl; group_parity = refl; other_peer = refl; headed = refl; kept = refl; none_kept = refl; copied = refl; other_row = refl; nobody = refl; row_parity = refl; created = refl; created_part = refl; redone = refl };
  writes = write_examples;
  walks = walk_examples;
  knows = known_examples;
  making = making_examples;
  answers = answer_examples;
  made = making_answers;
}
