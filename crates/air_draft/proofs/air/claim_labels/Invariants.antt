use Rattle.std.proofs.Common.{◌≡◌, map, take, string_bytes}
use Rattle.air_draft.specs.Drafts.{claim_labels}
use Rattle.air_draft.proofs.air.claim_labels.Given as goal

-- the labels of the claims so far are there
abbrev pub invariant-loop-claim : goal.invariant-loop-claim
invariant-loop-claim l = map string_bytes l.texts.items ≡ claim_labels l.labels (take l.claim-index l.claims)
