use Rattle.std.proofs.Common.{◌≡◌, false, drop}
use Rattle.serde_json.specs.View.{items_view, members_view}
use Rattle.serde_json.specs.Written.{items_text, members_text}
use Rattle.keep_docs.specs.Behind.{behind}
use Rattle.keep_docs.proofs.text_of.+behind_value.Given as goal

abbrev pub invariant-behind_items-loop-item : goal.invariant-behind_items-loop-item
invariant-behind_items-loop-item l =
    behind (items_text false (items_view l.item-items)) l.bytes
    ≡ behind (items_text l.later (items_view (drop l.item-index l.item-items))) l.rest

abbrev pub invariant-behind_members-loop-key : goal.invariant-behind_members-loop-key
invariant-behind_members-loop-key l =
    behind (members_text false (members_view l.members.entries)) l.bytes
    ≡ behind (members_text l.later (members_view l.key-iterator)) l.rest
