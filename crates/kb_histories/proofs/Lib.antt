mod AcceptedBooks
mod AccountSteps
pub mod AddUp
mod AskedPlans
pub mod BegunAttempts
pub mod BilledBooks
pub mod BilledNow
mod BookAtHand
mod BookSteps
mod BookWork
pub mod BoundedBooks
mod CountedInvoices
mod DueCases
pub mod DueNews
pub mod EvenNow
pub mod FoundEntries
pub mod HeldBooks
mod HeldEdits
pub mod JudgedCases
mod JudgedSteps
mod JudgedTexts
pub mod KeyedBooks
mod LaterChoices
pub mod LaterDues
pub mod LaterTotals
mod MachineSteps
mod MachineWork
mod Members
pub mod NamedBooks
pub mod NamedSums
mod OneAccount
pub mod OnlyAdded
mod OrderedBooks
pub mod OwnEntries
mod PutBooks
pub mod PutEntries
mod RangeSums
pub mod RepeatedEntries
pub mod SettledAttempts
pub mod SettlementWork
pub mod Shown
pub mod StayingAttempts
pub mod TakenWork
mod TextSteps
mod ToldReplies
mod TotalledBooks
pub mod WorkAtHand
