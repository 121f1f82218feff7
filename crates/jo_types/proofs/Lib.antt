pub mod DescriptorReads
