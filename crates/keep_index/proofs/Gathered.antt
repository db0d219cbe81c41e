-- What is gathered of packs, and what is made of it.
use Rattle.std.proofs.Common.{◌≡◌, ℕ, ◌+◌, ◌<◌, Bool, true, false, cond, List, [], ◌∷◌, ◌++◌, map, take, length, get_or, Option, None, Some, Vec, Global, unwrap_or, refl, sym, ap, ◌∙◌}
use Rattle.std.proofs.lemmas.List.{append-nil, map-append, map_more}
use Rattle.std.proofs.lemmas.Map.Views.{tells_apart}
use Rattle.std.specs.BTreeMap.{BTreeMap, get}
use Rattle.std.specs.Option.{option_map_or}
use Rattle.keep_names.proofs.Orders.{id_exact}
use Rattle.keep_names.specs.Orders.{id_cmp}
use Rattle.keep_names.specs.declared.blob.Blob.{Blob}
use Rattle.keep_names.specs.declared.id.Id.{Id}
use Rattle.keep_index.specs.Index.{PackData, pack_view}
use Rattle.keep_index.specs.Joining.{first_of_each, same_entry, same_id}
use Rattle.keep_index.specs.Listed.{kept_blobs}
use Rattle.keep_index.specs.declared.index.IndexedPack.{IndexedPack}
use Rattle.keep_index.proofs.Entries.{ids_equal}

-- ---- blobs put behind those of their pack

-- what was taken out, with more behind it
pub put_behind : (taken : Option (Vec Blob Global)) (none before put : Vec Blob Global) (more : List Blob) → none.items ≡ []
    → before ≡ unwrap_or taken none → put.items ≡ before.items ++ more → put.items ≡ option_map_or (λ kept. kept.items) taken [] ++ more
put_behind None none before put more empty is so = so ∙ ap (λ blobs. blobs ++ more) (ap (λ (v : Vec Blob Global). v.items) is ∙ empty)
put_behind (Some kept) none before put more empty is so = so ∙ ap (λ (v : Vec Blob Global). v.items ++ more) is

module _ (pack : Id) (more : List Blob) (was between now : BTreeMap Id (Vec Blob Global)) (put : Vec Blob Global) where
  pub more_kept : ((q : Id) → get id_cmp between q ≡ cond (same_id pack q) None (get id_cmp was q))
      → ((q : Id) → get id_cmp now q ≡ cond (same_id pack q) (Some put) (get id_cmp between q))
      → put.items ≡ kept_blobs was pack ++ more
      → (id : Id) → kept_blobs now id ≡ kept_blobs was id ++ cond (same_id id pack) more []
  more_kept taken putting so id = cases (same_id id pack) refl where
    items : Option (Vec Blob Global) → List Blob
    items o = option_map_or (λ kept. kept.items) o []

    cases : (b : Bool) → same_id id pack ≡ b → kept_blobs now id ≡ kept_blobs was id ++ cond b more []
    cases true is =
        ap items (putting id ∙ ap (λ b. cond b (Some put) (get id_cmp between id)) ((ids_equal).symm pack id ∙ is))
        ∙ so ∙ ap (λ (q : Id). kept_blobs was q ++ more) (sym (tells_apart id_exact id pack is))
    cases false other =
        let apart : same_id pack id ≡ false = (ids_equal).symm pack id ∙ other in
        ap items (putting id ∙ ap (λ b. cond b (Some put) (get id_cmp between id)) apart
        ∙ taken id ∙ ap (λ b. cond b None (get id_cmp was id)) apart)
        ∙ sym (append-nil (kept_blobs was id))

-- ---- what is made of it

-- the pack of this id, of the blobs that are kept
abbrev pub made : BTreeMap Id (Vec Blob Global) → Id → PackData
made blobs id = record { id = id; blobs = first_of_each same_entry (kept_blobs blobs id) }

-- a loop over ids has made one more
pub made_more : (blobs : BTreeMap Id (Vec Blob Global)) (ids : List Id) (i : ℕ) (d : Id) (packs now : List IndexedPack) (pack : IndexedPack) → i < length ids
    → map pack_view packs ≡ map (made blobs) (take i ids) → now ≡ packs ++ pack ∷ [] → pack_view pack ≡ made blobs (get_or ids i d)
    → map pack_view now ≡ map (made blobs) (take (i + 1) ids)
made_more blobs ids i d packs now pack lt so step is =
    ap (map pack_view) step ∙ map-append pack_view packs (pack ∷ [])
    ∙ ap (λ (xs : List PackData). xs ++ pack_view pack ∷ []) so
    ∙ ap (λ (x : PackData). map (made blobs) (take i ids) ++ x ∷ []) is
    ∙ sym (map_more (made blobs) ids i d lt)
