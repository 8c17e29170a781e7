-- In a formed tree Temporaries and Helpers have no mark in them.
-- Assumes nothing.
use Rattle.lowering.specs.Walk.{Walked, WalkedFields, WalkedPiece, WalkedItems}
use Rattle.lowering.specs.Walk.Walked.{noted}
use Rattle.direct.proofs.Threads.{Tidy, TidyFields, TidyPiece, TidyItems}
use Rattle.outcome.proofs.Tokens.{Formed, FormedFields, FormedPiece, FormedItems, temporary_none, helper_none}

mutual
  pub formed_tidy : (w : Walked) → Formed w → Tidy w
  formed_tidy (noted note at k fs) h =
      Tidy.tidy (λ e. temporary_none fs (h.0 e)) (λ e. helper_none fs (h.1 e)) (fields_tidy fs h.2)

  fields_tidy : (fs : WalkedFields) → FormedFields fs → TidyFields fs
  fields_tidy WalkedFields.done h = TidyFields.done
  fields_tidy (WalkedFields.absent fs) h = TidyFields.absent (fields_tidy fs h)
  fields_tidy (WalkedFields.field p fs) h = TidyFields.field (piece_tidy p h.0) (fields_tidy fs h.1)

  piece_tidy : (p : WalkedPiece) → FormedPiece p → TidyPiece p
  piece_tidy (WalkedPiece.one w) h = TidyPiece.one (formed_tidy w h)
  piece_tidy (WalkedPiece.list is) h = TidyPiece.list (items_tidy is h)
  piece_tidy (WalkedPiece.text bs) h = TidyPiece.text
  piece_tidy (WalkedPiece.byte b) h = TidyPiece.byte
  piece_tidy (WalkedPiece.mark b) h = TidyPiece.mark
  piece_tidy (WalkedPiece.number b) h = TidyPiece.number

  items_tidy : (is : WalkedItems) → FormedItems is → TidyItems is
  items_tidy WalkedItems.none h = TidyItems.none
  items_tidy (WalkedItems.hole is) h = TidyItems.hole (items_tidy is h)
  items_tidy (WalkedItems.item w is) h = TidyItems.item (formed_tidy w h.0) (items_tidy is h.1)
