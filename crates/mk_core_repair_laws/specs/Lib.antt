pub mod RepairLaws
