-- What is told to other languages: document 01's number of a refusal, or 0 where it is done, and beside it what is answered or the place.
-- What a reply has no use for is 0. Assumes nothing.
use Rattle.std.specs.Prelude.{ℕ, ◌≡◌, cond, Float, pos}
use Rattle.std.specs.Float.{binary32}
use Rattle.std.specs.Float.Ieee.{of_bits}
use Rattle.plate.specs.Refusal.{Told, done, refused}
use Rattle.column.specs.declared.Judged.{Judged}
use Rattle.plate.specs.Call.{Call, answer_of, left_by}
use Rattle.plate.specs.Head.{cleared_head}
use Rattle.plate.specs.declared.head.Head.{Head}
use Rattle.load.specs.declared.Load.{Load}
use Rattle.orders.specs.Kinds.{lift_kind, cure_kind, finish_kind}
use Rattle.orders.specs.declared.Order.{Order}
use Rattle.orders.specs.declared.Order.TheVariants as order
use Rattle.replies.specs.declared.Reply.{Reply}
use Rattle.replies.specs.declared.TableReply.{TableReply}
use Rattle.replies.specs.declared.PictureReply.{PictureReply}
use Rattle.replies.specs.declared.HeightReply.{HeightReply}
use Rattle.replies.specs.declared.JobReply.{JobReply}
use Rattle.replies.specs.declared.OrderReply.{OrderReply}

-- THE PROMISE of every call for other languages that writes: the reply is what the call's answer becomes, and the memory is what it leaves
pub record Replies {X B R : Type 0} (to : Told X → R) (call : Call X B) (reply : R) (now : B) : Type 0 where
  pub tells : reply ≡ to (answer_of call)
  pub leaves : now ≡ left_by call

abbrev pub reply : Told ℕ → Reply
reply (done x) = record { number = 0; value = x }
reply (refused number place) = record { number = number; value = place }

-- what goes with no table
abbrev pub no_head : Head
no_head = cleared_head 0 0

abbrev pub table_reply : Told Head → TableReply
table_reply (done head) = record { number = 0; head = head; place = 0 }
table_reply (refused number place) = record { number = number; head = no_head; place = place }

abbrev pub picture_reply : Told Judged → PictureReply
picture_reply (done j) = record { number = 0; filled = cond j.filled 1 0; value = j.share; difference = j.difference }
picture_reply (refused number place) = record { number = number; filled = 0; value = place; difference = pos 0 }

abbrev pub height_reply : Told Float → HeightReply
height_reply (done x) = record { number = 0; height = x; place = 0 }
height_reply (refused number place) = record { number = number; height = of_bits binary32 0; place = place }

abbrev pub job_reply : Told Load → JobReply
job_reply (done l) = record { number = 0; head = l.head; bound = l.bound; place = 0 }
job_reply (refused number place) = record { number = number; head = no_head; bound = 0; place = place }

-- a finish and a refusal have no amount
abbrev pub order_reply : Told Order → OrderReply
order_reply (done (order.Lift x)) = record { number = 0; kind = lift_kind; amount = x; count = 0; place = 0 }
order_reply (done (order.Cure x)) = record { number = 0; kind = cure_kind; amount = x; count = 0; place = 0 }
order_reply (done (order.Finish n)) = record { number = 0; kind = finish_kind; amount = of_bits binary32 0; count = n; place = 0 }
order_reply (refused number place) = record { number = number; kind = 0; amount = of_bits binary32 0; count = 0; place = place }
