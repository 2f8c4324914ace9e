-- facts after a mark, put together from their parts
use Rattle.std.proofs.Common.{◌≡◌, ℕ, List, ap, ◌∙◌}
use Rattle.wide_fifo_queue.specs.declared.known.Pending.{Pending}
use Rattle.wide_fifo_queue.specs.declared.known.Enqueued.{Enqueued}
use Rattle.wide_fifo_queue.specs.declared.known.Waiting.{Waiting}
use Rattle.wide_fifo_queue.specs.declared.known.Owed.{Owed}
use Rattle.wide_fifo_queue.specs.Facts.{Facts, later}

module _ (f k : Facts) (calls pending : List Pending) (e : k ≡ later calls f) (q : calls ≡ pending) where
  pub as_later : k ≡ later pending f
  as_later = e ∙ ap (λ l. later l f) q

  pub with_late : (l m : List Enqueued) → l ≡ m → record k { late = l } ≡ record (later pending f) { late = m }
  with_late l m r = ap (λ x. record k { late = x }) r ∙ ap (λ (g : Facts). record g { late = m }) as_later

  pub with_takers : (l m : List ℕ) → l ≡ m → record k { takers = l } ≡ record (later pending f) { takers = m }
  with_takers l m r = ap (λ x. record k { takers = x }) r ∙ ap (λ (g : Facts). record g { takers = m }) as_later

  pub with_entered : (l : List Enqueued) → record k { entered = l } ≡ record (later pending f) { entered = l }
  with_entered l = ap (λ (g : Facts). record g { entered = l }) as_later

  pub with_waiting : (l m : List Waiting) → l ≡ m → record k { waiting = l } ≡ record (later pending f) { waiting = m }
  with_waiting l m r = ap (λ x. record k { waiting = x }) r ∙ ap (λ (g : Facts). record g { waiting = m }) as_later

  pub with_both : (l : List Enqueued) (m n : List Enqueued) → m ≡ n → record k { entered = l; late = m } ≡ record (later pending f) { entered = l; late = n }
  with_both l m n r = ap (λ x. record k { entered = l; late = x }) r ∙ ap (λ (g : Facts). record g { entered = l; late = n }) as_later

  pub with_all : (l : List Enqueued) (v w : List Waiting) (o p : List Owed) (s t : List ℕ) → v ≡ w → o ≡ p → s ≡ t
      → record k { entered = l; waiting = v; owed = o; takers = s } ≡ record (later pending f) { entered = l; waiting = w; owed = p; takers = t }
  with_all l v w o p s t a b c =
      ap (λ x. record k { entered = l; waiting = x; owed = o; takers = s }) a
      ∙ ap (λ x. record k { entered = l; waiting = w; owed = x; takers = s }) b
      ∙ ap (λ x. record k { entered = l; waiting = w; owed = p; takers = x }) c
      ∙ ap (λ (g : Facts). record g { entered = l; waiting = w; owed = p; takers = t }) as_later
